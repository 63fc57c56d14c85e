-- What a log of records on two disks is, as contracts see it.
use Rattle.std.specs.Prelude.{ℕ, Bool, true, false, refl}
use Rattle.std.specs.Coded.{Coded, code_by, coded×, coded_ℕ, coded_bool}

-- The two disks, whether the spare is the one that counts, whether the log is open, the place of the closed gate behind
-- its records, 0 where it isn't open, and how many calls of the disks failed.
pub record LogState (D : Type 0) : Type 0 where
  pub main : D
  pub spare : D
  pub on_spare : Bool
  pub is_open : Bool
  pub end : ℕ
  pub faults : ℕ

abbrev pub log_code : {D : Type 0} → Coded D → Coded (LogState D)
log_code {D} c = code_by (D × (D × (Bool × (Bool × (ℕ × ℕ))))) (coded× c (coded× c (coded× coded_bool (coded× coded_bool (coded× coded_ℕ coded_ℕ)))))
    (λ l. (l.main, (l.spare, (l.on_spare, (l.is_open, (l.end, l.faults))))))
    (λ q. record { main = q.0; spare = q.1.0; on_spare = q.1.1.0; is_open = q.1.1.1.0; end = q.1.1.1.1.0; faults = q.1.1.1.1.1 })
    (λ _. refl)

-- of two disks the one that counts
abbrev pub in_use : {D : Type 0} → Bool → D → D → D
in_use false main spare = main
in_use true main spare = spare

-- the disk that counts
abbrev pub counted : {D : Type 0} → LogState D → D
counted l = in_use l.on_spare l.main l.spare

-- the other disk
abbrev pub uncounted : {D : Type 0} → LogState D → D
uncounted l = in_use l.on_spare l.spare l.main
