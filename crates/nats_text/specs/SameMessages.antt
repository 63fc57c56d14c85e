-- Messages and parcels that `==` takes for equal, which are the equal ones.
use Rattle.std.specs.Prelude.{◌≡◌, ◌==◌, Bool, ◌&&◌}
use Rattle.std.specs.Bool.{Decides}
use Rattle.std.specs.Cmp.{IsPartialEquivalence}
use Rattle.std.specs.Cmp.Lexicographic.{bytes_decides}
use Rattle.std.specs.Option.{option_eq}
use Rattle.std.specs.Str.{bytes_eq}
use Rattle.std.proofs.Common.{ap}
use Rattle.std.proofs.lemmas.Bool.{and_parts, and_from}
use Rattle.std.proofs.lemmas.Bool.Decides.{Decides-eqb}
use Rattle.nats_text.specs.declared.message.Message.{Message}
use Rattle.nats_text.specs.declared.message.Parcel.{Parcel}
use Rattle.nats_text.specs.SameHeaders.{same_headers, same_headers_decides, same_bytes_decides, laws_from_decides}

-- two messages have one subject, equal headers, one payload and one time
abbrev pub same_message : Message → Message → Bool
same_message a b = bytes_eq a.subject b.subject && (same_headers a.headers b.headers && (bytes_eq a.payload b.payload && a.time == b.time))

pub same_message_decides : (a b : Message) → Decides (same_message a b) (a ≡ b)
same_message_decides a b =
    let subject = bytes_decides a.subject b.subject in
    let headers = same_headers_decides a.headers b.headers in
    let payload = bytes_decides a.payload b.payload in
    let time = Decides-eqb a.time b.time in
    let last : Bool = bytes_eq a.payload b.payload && a.time == b.time in (
      λ h.
          let first = and_parts (bytes_eq a.subject b.subject) (same_headers a.headers b.headers && last) h in
          let second = and_parts (same_headers a.headers b.headers) last first.1 in
          let third = and_parts (bytes_eq a.payload b.payload) (a.time == b.time) second.1 in
          λ i. record { subject = subject.0 first.0 i; headers = headers.0 second.0 i; payload = payload.0 third.0 i; time = time.0 third.1 i },
      λ e.
          and_from (bytes_eq a.subject b.subject) (same_headers a.headers b.headers && last) (subject.1 (ap (λ m. m.subject) e))
          (and_from (same_headers a.headers b.headers) last (headers.1 (ap (λ m. m.headers) e))
          (and_from (bytes_eq a.payload b.payload) (a.time == b.time) (payload.1 (ap (λ m. m.payload) e)) (time.1 (ap (λ m. m.time) e)))),
    )

pub same_message-laws : IsPartialEquivalence same_message
same_message-laws = laws_from_decides same_message same_message_decides

-- two parcels have one subject, one reply, equal headers and one payload
abbrev pub same_parcel : Parcel → Parcel → Bool
same_parcel a b = bytes_eq a.subject b.subject && (option_eq bytes_eq a.reply b.reply && (same_headers a.headers b.headers && bytes_eq a.payload b.payload))

pub same_parcel_decides : (a b : Parcel) → Decides (same_parcel a b) (a ≡ b)
same_parcel_decides a b =
    let subject = bytes_decides a.subject b.subject in
    let reply = same_bytes_decides a.reply b.reply in
    let headers = same_headers_decides a.headers b.headers in
    let payload = bytes_decides a.payload b.payload in
    let last : Bool = same_headers a.headers b.headers && bytes_eq a.payload b.payload in (
      λ h.
          let first = and_parts (bytes_eq a.subject b.subject) (option_eq bytes_eq a.reply b.reply && last) h in
          let second = and_parts (option_eq bytes_eq a.reply b.reply) last first.1 in
          let third = and_parts (same_headers a.headers b.headers) (bytes_eq a.payload b.payload) second.1 in
          λ i. record { subject = subject.0 first.0 i; reply = reply.0 second.0 i; headers = headers.0 third.0 i; payload = payload.0 third.1 i },
      λ e.
          and_from (bytes_eq a.subject b.subject) (option_eq bytes_eq a.reply b.reply && last) (subject.1 (ap (λ m. m.subject) e))
          (and_from (option_eq bytes_eq a.reply b.reply) last (reply.1 (ap (λ m. m.reply) e))
          (and_from (same_headers a.headers b.headers) (bytes_eq a.payload b.payload) (headers.1 (ap (λ m. m.headers) e)) (payload.1 (ap (λ m. m.payload) e)))),
    )

pub same_parcel-laws : IsPartialEquivalence same_parcel
same_parcel-laws = laws_from_decides same_parcel same_parcel_decides
