-- A text is put on no page first, and so counted; then in the buffer where it fits. Assumes nothing.
use Rattle.std.specs.Prelude.{ℕ, ◌≤◌, ◌<◌, ◌≡◌, Bool, true, false, cond, List, [], ◌++◌, length, drop, take}
use Rattle.std.specs.declared.result.Result.TheVariants.{Ok, Err}
use Rattle.std.proofs.Common.{sym, ap, ◌∙◌, arith, length-append, length-take-le}
use Rattle.ground.specs.ResultLaws.{one_result}
use Rattle.written.specs.Page.{Page, farthest, put}
use Rattle.written.specs.PageLaws.{all_fits, none_put, none_count, short, fitting}
use Rattle.listing.specs.declared.NoRoom.{NoRoom}
use Rattle.listing.specs.Says.{Listed, listed_number, listed_value, text_has_room, TextSays, ListSays, LongSays, LengthSays}

-- where its length is known to fit, it is not counted
pub room_sure : (all text : List ℕ) (r : ℕ) (text' : List ℕ) → length all ≤ length text → length text < farthest → ◌≡◌ {A = Page} (text', r) (put (text, 0) all) → LongSays all text (Ok r) text'
room_sure all text r text' h m g =
    let p = all_fits text all r text' h m g in
    record { number = rw p.1; value = p.0; bytes = rw p.1 p.2 }

module _ (all text none : List ℕ) (n : ℕ) (e : ◌≡◌ {A = Page} (none, n) (put ([], 0) all)) where
  pub no_room : length (none ++ text) < n → LongSays all text (Err (record { needed = n })) (none ++ text)
  no_room h =
      let f : text_has_room all text ≡ false = short all text none n e h in
      record { number = rw f; value = none_count all text none n e; bytes = rw (f, none_put all text none n e) }

  pub room : (r : ℕ) (text' : List ℕ) → n ≤ length (none ++ text) → length text < farthest → ◌≡◌ {A = Page} (text', r) (put (none ++ text, 0) all) → LongSays all text (Ok r) text'
  room r text' h m g =
      let p = fitting all text none n e r text' h m g in
      record { number = rw p.1; value = p.0; bytes = rw p.1 p.2 }

-- a text whose length no buffer's reaches is counted whole
pub all_counted : {all text : List ℕ} {r : Listed} {text' : List ℕ} → length all ≤ farthest → LongSays all text r text' → ListSays all text r text'
all_counted h s = record { number = s.number; value = s.value ∙ omega arith; bytes = s.bytes }

-- an answer is known by its number and value
listed_same : (r r' : Listed) → listed_number r ≡ listed_number r' → listed_value r ≡ listed_value r' → r ≡ r'
listed_same (Ok n) (Ok m) e f = ap Ok f
listed_same (Ok n) (Err m) e f = absurd (omega (arith, e))
listed_same (Err n) (Ok m) e f = absurd (omega (arith, e))
listed_same (Err n) (Err m) e f = ap (λ (k : ℕ). Err (record { needed = k })) f

-- two answers that the statement allows are equal, and so is what they leave
pub one_listing : {all : List ℕ} {size : ℕ} {text : List ℕ} {r r' : Listed} {b b' : List ℕ} → TextSays all size text r b → TextSays all size text r' b' → (r ≡ r') × (b ≡ b')
one_listing p q = (listed_same _ _ (one_result p.number q.number) (one_result p.value q.value), one_result p.bytes q.bytes)

-- a text that is told lies in the buffer
module _ {all text : List ℕ} {r : Listed} {k : ℕ} {text' : List ℕ} (e : r ≡ Ok k) (s : ListSays all text r text') where
  pub within : k ≤ length text'
  within = go (text_has_room all text) (sym (ap listed_number e) ∙ s.number) (sym (ap listed_value e) ∙ s.value) s.bytes
    where
      go : (b : Bool) → ◌≡◌ {A = ℕ} 0 (cond b 0 9) → k ≡ length all → text' ≡ cond b (all ++ drop (length all) text) text → k ≤ length text'
      go true f z g = rw (z, g, length-append) (omega arith)
      go false f z g = absurd (omega (arith, f))

  pub within_take : k ≡ length (take k text')
  within_take = sym (length-take-le k text' within)

-- the length is told, whether the text has room or not
module _ {all text : List ℕ} {r : Listed} {text' : List ℕ} (s : LongSays all text r text') where
  pub length_told : {n : ℕ} → r ≡ Ok n → LengthSays all text n text'
  length_told e = record { size = sym (ap listed_value e) ∙ s.value; bytes = s.bytes }

  pub length_needed : {n : NoRoom} → r ≡ Err n → LengthSays all text n.needed text'
  length_needed e = record { size = sym (ap listed_value e) ∙ s.value; bytes = s.bytes }

-- two lengths that the statement allows are equal, and so is what they leave
pub one_length : {all text : List ℕ} {r r' : ℕ} {b b' : List ℕ} → LengthSays all text r b → LengthSays all text r' b' → (r ≡ r') × (b ≡ b')
one_length p q = (one_result p.size q.size, one_result p.bytes q.bytes)
