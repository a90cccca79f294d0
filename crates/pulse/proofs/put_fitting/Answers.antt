-- `pulse::put_fitting` meets its contract: its records one after the other, each where the mode writes it.
use Rattle.std.proofs.Common.{ℕ, ◌≡◌, List, [], ◌++◌, cond, ◌+◌, ◌≤◌, arith, length}
use Rattle.ground.specs.Splice.{Written}
use Rattle.items.specs.Items.{word_of, words_of, item_if}
use Rattle.items.specs.declared.Item.{Item}
use Rattle.items.specs.ItemsLaws.{first_room, then_room, then_written}
use Rattle.finder.specs.declared.Pulse.{Pulse}
use Rattle.pulse.specs.declared.Parts.{Parts}
use Rattle.pulse.specs.Inner.{word_if}
use Rattle.pulse.specs.Pulse.{raw_items, integral_item, time_item, pedestal_item, pulse_items}
use Rattle.pulse.specs.PulseLaws.{word_room, word_written}
use Rattle.pulse.proofs.put_fitting.Goals as goal

-- the four parts, as lists of records, and what is written of each one into `b`
module _ (b : List ℕ) (at : ℕ) (m : Parts) (channel : ℕ) (row : List ℕ) (i : ℕ) (p : Pulse)
    (fits : at + length (pulse_items m channel row i p) ≤ length b) where
  abbrev raw : List Item
  raw = cond m.raw (raw_items channel row i p) []

  abbrev integral : List Item
  integral = item_if m.integral (integral_item channel i p)

  abbrev time : List Item
  time = item_if m.time (time_item m.high channel i p)

  abbrev pedestal : List Item
  pedestal = item_if m.pedestal (pedestal_item channel i p)

  whole : at + length (raw ++ (integral ++ (time ++ pedestal))) ≤ length b
  unfolding pulse_items
  whole = fits

  room_raw : at + length raw ≤ length b
  room_raw = first_room _ _ raw (integral ++ (time ++ pedestal)) whole

  -- each part is written, and what is left has room behind it
  module _ {k₁ : ℕ} {b₁ : List ℕ} (w₁ : Written b at (words_of raw) k₁ b₁) where
    behind_raw : k₁ + length (integral ++ (time ++ pedestal)) ≤ length b₁
    behind_raw = then_room _ _ raw (integral ++ (time ++ pedestal)) _ _ whole w₁

    room_integral : (word : ℕ) → k₁ + length (word_if m.integral word) ≤ length b₁
    room_integral word = word_room m.integral (integral_item channel i p) word _ _ (first_room _ _ integral (time ++ pedestal) behind_raw)

    module _ {x₂ : ℕ} {k₂ : ℕ} {b₂ : List ℕ} (e₂ : x₂ ≡ word_of (integral_item channel i p)) (w₂ : Written b₁ k₁ (word_if m.integral x₂) k₂ b₂) where
      wrote_integral : Written b₁ k₁ (words_of integral) k₂ b₂
      wrote_integral = word_written m.integral (integral_item channel i p) x₂ e₂ w₂

      behind_integral : k₂ + length (time ++ pedestal) ≤ length b₂
      behind_integral = then_room _ _ integral (time ++ pedestal) _ _ behind_raw wrote_integral

      room_time : (word : ℕ) → k₂ + length (word_if m.time word) ≤ length b₂
      room_time word = word_room m.time (time_item m.high channel i p) word _ _ (first_room _ _ time pedestal behind_integral)

      module _ {x₃ : ℕ} {k₃ : ℕ} {b₃ : List ℕ} (e₃ : x₃ ≡ word_of (time_item m.high channel i p)) (w₃ : Written b₂ k₂ (word_if m.time x₃) k₃ b₃) where
        wrote_time : Written b₂ k₂ (words_of time) k₃ b₃
        wrote_time = word_written m.time (time_item m.high channel i p) x₃ e₃ w₃

        behind_time : k₃ + length pedestal ≤ length b₃
        behind_time = then_room _ _ time pedestal _ _ behind_integral wrote_time

        room_pedestal : (word : ℕ) → k₃ + length (word_if m.pedestal word) ≤ length b₃
        room_pedestal word = word_room m.pedestal (pedestal_item channel i p) word _ _ behind_time

        all_written : {x₄ : ℕ} {k₄ : ℕ} {b₄ : List ℕ} → x₄ ≡ word_of (pedestal_item channel i p) → Written b₃ k₃ (word_if m.pedestal x₄) k₄ b₄
            → Written b at (words_of (pulse_items m channel row i p)) k₄ b₄
        unfolding pulse_items
        all_written {x₄ = x₄} e₄ w₄ =
            let w = word_written m.pedestal (pedestal_item channel i p) x₄ e₄ w₄ in
            let w' = then_written _ _ time _ _ pedestal _ _ (omega (arith, behind_integral)) wrote_time w in
            let w'' = then_written _ _ integral _ _ (time ++ pedestal) _ _ (omega (arith, behind_raw)) wrote_integral w' in
            then_written _ _ raw _ _ (integral ++ (time ++ pedestal)) _ _ (omega (arith, whole)) w₁ w''

pub put_raw_if-samples-requires : goal.put_raw_if-samples-requires
put_raw_if-samples-requires c =
    let a = c.args in
    record {
      fitting = c.requires.fitting;
      pulse_in_bounds = room_raw _ _ a.parts a.channel a.row.now a.i a.pulse c.requires.pulse_in_bounds;
    }

pub put_word_if-integral-requires : goal.put_word_if-integral-requires
put_word_if-integral-requires c =
    let a = c.args in
    room_integral _ _ a.parts a.channel a.row.now a.i a.pulse c.requires.pulse_in_bounds c.put_raw_if-samples.ensures _

pub put_word_if-time-requires : goal.put_word_if-time-requires
put_word_if-time-requires c =
    let a = c.args in
    room_time _ _ a.parts a.channel a.row.now a.i a.pulse c.requires.pulse_in_bounds c.put_raw_if-samples.ensures
    c.integral_word.ensures c.put_word_if-integral.ensures _

pub put_word_if-requires : goal.put_word_if-requires
put_word_if-requires c =
    let a = c.args in
    room_pedestal _ _ a.parts a.channel a.row.now a.i a.pulse c.requires.pulse_in_bounds c.put_raw_if-samples.ensures
    c.integral_word.ensures c.put_word_if-integral.ensures c.time_word.ensures c.put_word_if-time.ensures _

pub returns : goal.returns
returns c =
    let a = c.args in
    all_written _ _ a.parts a.channel a.row.now a.i a.pulse c.requires.pulse_in_bounds c.put_raw_if-samples.ensures
    c.integral_word.ensures c.put_word_if-integral.ensures c.time_word.ensures c.put_word_if-time.ensures
    c.pedestal_word.ensures c.put_word_if.ensures
