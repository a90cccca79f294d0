-- `event::put_lent` meets its contract: header, time words, posted channels.
use Rattle.std.proofs.Common.{ℕ, ◌+◌, ◌≤◌, refl, true, Bool, List, [], ◌∷◌, ◌++◌, arith, length}
use Rattle.ground.specs.Splice.{Written, WrittenIf}
use Rattle.settings.specs.declared.Settings.{Settings}
use Rattle.items.specs.Items.{words_of}
use Rattle.items.specs.declared.Item.{Item}
use Rattle.items.specs.declared.Item.TheVariants as I
use Rattle.items.specs.ItemsLaws.{first_room, then_room, put_written, then_written}
use Rattle.event.specs.Event.{time_items, channels_items, event_items}
use Rattle.event.proofs.put_lent.Goals as goal

-- the three parts, as lists of records, and what is written of each one into `b`
module _ (b : List ℕ) (at : ℕ) (s : Settings) (number time : ℕ) (posted : List Bool) (store : List ℕ)
    (fits : at + length (event_items s number time posted store) ≤ length b) where
  abbrev header : List Item
  header = I.Event (record { slot = s.slot; number = number }) ∷ []

  abbrev times : List Item
  times = time_items s.times time

  abbrev channels : List Item
  channels = channels_items s store 0 posted

  whole : at + length (header ++ (times ++ channels)) ≤ length b
  unfolding event_items
  whole = fits

  module _ {k₁ : ℕ} {b₁ : List ℕ} (w₁ : WrittenIf true b at (words_of header) k₁ b₁) where
    wrote_header : Written b at (words_of header) k₁ b₁
    wrote_header = put_written header refl (first_room _ _ header (times ++ channels) whole) w₁

    behind_header : k₁ + length (times ++ channels) ≤ length b₁
    behind_header = then_room _ _ header (times ++ channels) _ _ whole wrote_header

    room_times : k₁ + length times ≤ length b₁
    room_times = first_room _ _ times channels behind_header

    module _ {k₂ : ℕ} {b₂ : List ℕ} (w₂ : Written b₁ k₁ (words_of times) k₂ b₂) where
      room_channels : k₂ + length channels ≤ length b₂
      room_channels = then_room _ _ times channels _ _ behind_header w₂

      all_written : {k₃ : ℕ} {b₃ : List ℕ} → Written b₂ k₂ (words_of channels) k₃ b₃
          → Written b at (words_of (event_items s number time posted store)) k₃ b₃
      unfolding event_items
      all_written w₃ =
          let rest = then_written _ _ times _ _ channels _ _ (omega (arith, behind_header)) w₂ w₃ in
          then_written _ _ header _ _ (times ++ channels) _ _ (omega (arith, whole)) wrote_header rest

pub put_times-channels-requires : goal.put_times-channels-requires
put_times-channels-requires c =
    let a = c.args in
    record {
      time_bound = c.requires.lent.1;
      time_in_bounds = room_times _ _ a.settings a.number a.time a.posted.now a.store.now c.requires.store_in_bounds c.put_item-times.ensures;
    }

pub put_channels-requires : goal.put_channels-requires
put_channels-requires c =
    let a = c.args in
    record {
      lent = c.requires.lent.0;
      posted_in_bounds =
          room_channels _ _ a.settings a.number a.time a.posted.now a.store.now c.requires.store_in_bounds
          c.put_item-times.ensures c.put_times-channels.ensures;
    }

pub returns : goal.returns
returns c =
    let a = c.args in
    all_written _ _ a.settings a.number a.time a.posted.now a.store.now c.requires.store_in_bounds
    c.put_item-times.ensures c.put_times-channels.ensures c.put_channels.ensures
