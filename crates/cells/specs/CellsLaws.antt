-- A record comes back from its numbers. Assumes nothing.
use Rattle.std.specs.Prelude.{ℕ, ◌+◌, ◌*◌, ◌/◌, ◌%◌, ◌^◌, ◌<◌, ◌≡◌, refl, cond, List, eqb, get_or}
use Rattle.std.proofs.Common.{sym, ap, ap₂, ◌∙◌, arith}
use Rattle.records.specs.declared.answer.Record.{Record}
use Rattle.records.specs.declared.answer.Record.TheVariants as R
use Rattle.cells.specs.Cells.{record_numbers}

-- a time's parts are those of the layout: the low one has 24 bits, and the first word's bits 26-24 are the second word's low three; nothing is said of other
-- records
abbrev pub TimeSound : Record → Type 0
TimeSound (R.Block r) = Unit {0}
TimeSound (R.Parameters r) = Unit {0}
TimeSound (R.Event r) = Unit {0}
TimeSound (R.Time27 r) = r.low < 2 ^ 24
TimeSound (R.Time48 r high) = (r.low < 2 ^ 24) × (r.middle ≡ high.high % 8)
TimeSound (R.TimeHigh r) = Unit {0}
TimeSound (R.Window r p) = Unit {0}
TimeSound (R.Raw r p) = Unit {0}
TimeSound (R.Pair r) = Unit {0}
TimeSound (R.Integral r) = Unit {0}
TimeSound (R.Time r) = Unit {0}
TimeSound (R.Pedestal r) = Unit {0}
TimeSound (R.Trailer r) = Unit {0}
TimeSound (R.Fillers slot n) = Unit {0}
TimeSound (R.Empty r) = Unit {0}
TimeSound (R.Scalers p) = Unit {0}
TimeSound (R.Scaler r) = Unit {0}

-- the record of a kind and five numbers
abbrev record_by : ℕ → ℕ → ℕ → ℕ → ℕ → ℕ → Record
record_by kind a b c d e =
    cond (eqb kind 1) (R.Block (record { slot = a; number = b; events = c }))
    (cond (eqb kind 2) (R.Parameters (record { pl = a; nsb = b; nsa = c }))
    (cond (eqb kind 3) (R.Event (record { slot = a; number = b }))
    (cond (eqb kind 4) (R.Time27 (record { middle = a / 2 ^ 24; low = a % 2 ^ 24 }))
    (cond (eqb kind 5) (R.Time48 (record { middle = a / 2 ^ 24 % 8; low = a % 2 ^ 24 }) (record { high = a / 2 ^ 24 }))
    (cond (eqb kind 6) (R.TimeHigh (record { high = a }))
    (cond (eqb kind 7) (R.Window (record { channel = a; width = c }) (record { place = d; count = e }))
    (cond (eqb kind 8) (R.Raw (record { channel = a; pulse = b; tc = c }) (record { place = d; count = e }))
    (cond (eqb kind 9) (R.Pair (record { first = a; second = b; nofirst = c; nosecond = d }))
    (cond (eqb kind 10) (R.Integral (record { channel = a; pulse = b; quality = c; sum = d }))
    (cond (eqb kind 11) (R.Time (record { channel = a; pulse = b; quality = c; coarse = d; fine = e }))
    (cond (eqb kind 12) (R.Pedestal (record { channel = a; pulse = b; vmin = d; vpeak = e }))
    (cond (eqb kind 13) (R.Trailer (record { slot = a; words = b }))
    (cond (eqb kind 14) (R.Fillers a b)
    (cond (eqb kind 15) (R.Empty (record { slot = a }))
    (cond (eqb kind 17) (R.Scalers (record { place = d; count = b }))
    (R.Scaler (record { value = a })))))))))))))))))

abbrev record_of : List ℕ → Record
record_of n = record_by (get_or n 0 0) (get_or n 1 0) (get_or n 2 0) (get_or n 3 0) (get_or n 4 0) (get_or n 5 0)

record_back : (x : Record) → TimeSound x → record_of (record_numbers x) ≡ x
record_back (R.Block r) h = refl
record_back (R.Parameters r) h = refl
record_back (R.Event r) h = refl
record_back (R.Time27 r) h =
    let t : ℕ = r.middle * 2 ^ 24 + r.low in
    let m : t / 2 ^ 24 ≡ r.middle = omega (arith, h) in
    let l : t % 2 ^ 24 ≡ r.low = omega (arith, h) in
    ap₂ (λ (i j : ℕ). R.Time27 (record { middle = i; low = j })) m l
record_back (R.Time48 r high) h =
    let t : ℕ = high.high * 2 ^ 24 + r.low in
    let m : t / 2 ^ 24 ≡ high.high = omega (arith, h.0) in
    let l : t % 2 ^ 24 ≡ r.low = omega (arith, h.0) in
    ap₂ (λ (i j : ℕ). R.Time48 (record { middle = i % 8; low = j }) (record { high = i })) m l
    ∙ ap (λ (i : ℕ). R.Time48 (record { middle = i; low = r.low }) high) (sym h.1)
record_back (R.TimeHigh r) h = refl
record_back (R.Window r p) h = refl
record_back (R.Raw r p) h = refl
record_back (R.Pair r) h = refl
record_back (R.Integral r) h = refl
record_back (R.Time r) h = refl
record_back (R.Pedestal r) h = refl
record_back (R.Trailer r) h = refl
record_back (R.Fillers slot n) h = refl
record_back (R.Empty r) h = refl
record_back (R.Scalers p) h = refl
record_back (R.Scaler r) h = refl

-- so that the numbers say all of a record: two with the same numbers are the same
pub same_record : (x y : Record) → TimeSound x → TimeSound y → record_numbers x ≡ record_numbers y → x ≡ y
same_record x y h k e = sym (record_back x h) ∙ ap record_of e ∙ record_back y k
