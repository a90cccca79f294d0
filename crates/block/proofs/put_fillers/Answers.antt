-- `block::put_fillers` meets its contract: the part that is filled has as many words as fillers. Assumes nothing.
use Rattle.std.proofs.Common.{ℕ, zero, suc, ◌+◌, ◌-◌, ◌≡◌, refl, ap, List, ◌∷◌, arith, rules, length, replicate, take, drop, length-take, length-drop, drop-drop}
use lib.ListN.{length-replicate}
use Rattle.ground.specs.Splice.{splice}
use Rattle.items.specs.Items.{word_of, words_of}
use Rattle.items.specs.declared.Item.{Item}
use Rattle.items.specs.declared.Item.TheVariants as I
use Rattle.block.proofs.put_fillers.Goals as goal

words_replicate : (n : ℕ) (x : Item) → words_of (replicate n x) ≡ replicate n (word_of x)
words_replicate zero x = refl
words_replicate (suc n) x = ap (λ (ws : List ℕ). word_of x ∷ ws) (words_replicate n x)

pub returns : goal.returns
unfolding splice
returns c =
    let a = c.args in
    let many : a.at + a.count - a.at ≡ a.count = omega arith in
    let size : length (take (a.at + a.count - a.at) (drop a.at a.words.now)) ≡ a.count = simp (length-take, length-drop) (omega arith) in
    let filled : c.fill.new.self ≡ replicate a.count c.build.result = rw size at (c.fill.ensures.after (search rules)) in
    let are = words_replicate a.count (I.Filler (record { slot = a.slot })) in
    record {
      place = rw (are, length-replicate);
      words = rw (are, length-replicate, filled, c.build.ensures, many, drop-drop);
    }
