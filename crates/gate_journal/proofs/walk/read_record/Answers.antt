use Rattle.std.proofs.Common.{◌≡◌, ℕ, ◌+◌, ◌∙◌, sym, ap, length, take, drop, arith}
use Rattle.std.proofs.lemmas.List.{take_at, drop-drop}
use Rattle.gate_journal.proofs.Reading.{record_read}
use Rattle.gate_journal.proofs.walk.read_record.Goals as goal

pub returns-clause-answer : goal.returns-clause-answer
returns-clause-answer g c = λ tells.
    let s = g.D.Disk.seen c.args.disk.now in
    let t = g.D.Disk.seen c.fill.new.disk in
    let n = c.read_u32-size.result in
    let rest = drop (c.args.place + 1) s in
    let long : length c.fill-2.new.buf ≡ n = c.fill-2.auto.buf ∙ c.deref_mut.ensures.len ∙ c.in_ok-body.ensures.len in
    let here : drop (c.args.place + 5) t ≡ drop 4 rest = ap (drop (c.args.place + 5)) (c.fill.ensures.looks tells).same.content ∙ ap (λ (k : ℕ). drop k s) (omega arith) ∙ sym (drop-drop 4 (c.args.place + 1) s) in
    let items : c.from_vec.result ≡ c.fill-2.new.buf = c.from_vec.ensures ∙ take_at c.fill-2.new.buf (drop (length c.fill-2.new.buf) c.in_ok-body.body.items) c.in_ok-body.body.len (c.fill-2.auto.buf ∙ c.deref_mut.ensures.len) in
    let bytes : c.from_vec.result ≡ take n (drop 4 rest) = items ∙ c.in_ok-fill-2.ensures.bytes tells ∙ ap (λ (k : ℕ). take k (drop (c.args.place + 5) t)) (c.deref_mut.ensures.len ∙ c.in_ok-body.ensures.len) ∙ ap (take n) here in
    let size : length c.from_vec.result ≡ n = ap length items ∙ long in
    (drop n (drop 4 rest), record_read rest c.fill.new.buf c.from_vec.result n (c.in_ok-fill.ensures.bytes tells) c.read_u32-size.ensures.spelling bytes size, (omega (arith, size, c.if-size-eq0.false), omega (arith, size, c.if-size-gt-MAX_BODY.false)))
