-- Demand 2: "A block that breaks the layout is refused": what the reader takes as a whole block is one of the layout. Assumes nothing.
use Rattle.std.specs.Prelude.{ℕ, ◌+◌, ◌-◌, ◌^◌, ◌<◌, ◌≡◌, refl, Bool, true, false, cond, not, List, [], ◌∷◌, leb}
use Rattle.std.proofs.Common.{sym, ap, ◌∙◌, subst, arith, le-leb}
use Rattle.ground.specs.TestsLaws.{or_none}
use Rattle.fields.specs.Word.{read}
use Rattle.fields.proofs.WordLaws.{field_lt}
use Rattle.framing.specs.Words as W
use Rattle.raw.specs.Words as R
use Rattle.measures.specs.Words as N
use Rattle.items.specs.Items.{word_of, fits, form_of, item_from, fixed_in, is_of}
use Rattle.items.specs.declared.Form.{Form}
use Rattle.items.specs.declared.Form.TheVariants as F
use Rattle.scan.specs.declared.Scan.{Scan}
use Rattle.scan.specs.After.{start_of}
use Rattle.meaning.specs.declared.Meaning.TheVariants as M
use Rattle.meaning.specs.Meaning.{unfinished}
use Rattle.meaning.specs.MeaningLaws.{meaning_alike}
use Rattle.questions.specs.Questions.{at_limit, item_wrong}
use Rattle.reader.specs.Step.{Step}
use Rattle.reader.specs.Step as S
use Rattle.reader.specs.Reader.{step_at, with_item, judge_at, Whole, Broken, end_of, on_judged, read_from}
use Rattle.reader.specs.ReaderLaws.{Accepted, accepted, ended}
use Rattle.layout.specs.NothingLost.{form_back}
use Rattle.layout.specs.Layout.{Stands, Follow, IsBlock}
use Rattle.layout.specs.LayoutLaws.{says}
use Rattle.layout.specs.PassLaws.{both}

-- ---- what was read is within its width

read_le : (high low w : ℕ) → leb (read high low w) (2 ^ (high + 1 - low) - 1) ≡ true
read_le high low w =
    let l : read high low w < 2 ^ (high + 1 - low) = field_lt w low (high + 1 - low) in
    le-leb (read high low w) (2 ^ (high + 1 - low) - 1) (omega arith)

read_fits : (f : Form) (w : ℕ) → fits (item_from f w) ≡ true
unfolding fits W.block_header W.block_header_of W.parameters W.parameters_of W.trailer W.trailer_of W.event_header W.event_header_of W.trigger_time W.trigger_time_of W.trigger_time_high W.trigger_time_high_of W.scalers W.scalers_of W.scaler W.scaler_of W.empty W.empty_of W.filler W.filler_of R.window R.window_of R.pulse_raw R.pulse_raw_of R.pair R.pair_of N.integral N.integral_of N.time N.time_of N.pedestal N.pedestal_of
read_fits F.Block w = both refl (both refl (both (read_le 26 22 w) (both refl (both (read_le 17 8 w) (read_le 7 0 w)))))
read_fits F.Parameters w = both refl (both refl (both (read_le 28 18 w) (both (read_le 17 9 w) (read_le 8 0 w))))
read_fits F.Trailer w = both refl (both refl (both (read_le 26 22 w) (read_le 21 0 w)))
read_fits F.Event w = both refl (both refl (both (read_le 26 22 w) (read_le 21 0 w)))
read_fits F.Clock w = both refl (both refl (both (read_le 26 24 w) (read_le 23 0 w)))
read_fits F.ClockHigh w = both refl (both refl (read_le 23 0 w))
read_fits F.Window w = both refl (both refl (both (read_le 26 23 w) (both refl (read_le 11 0 w))))
read_fits F.Raw w = both refl (both refl (both (read_le 26 23 w) (both (read_le 22 21 w) (both refl (read_le 9 0 w)))))
read_fits F.Pair w = both refl (both refl (both (read_le 29 29 w) (both (read_le 28 16 w) (both refl (both (read_le 13 13 w) (read_le 12 0 w))))))
read_fits F.Integral w = both refl (both refl (both (read_le 26 23 w) (both (read_le 22 21 w) (both (read_le 20 19 w) (read_le 18 0 w)))))
read_fits F.Time w = both refl (both refl (both (read_le 26 23 w) (both (read_le 22 21 w) (both (read_le 20 19 w) (both refl (both (read_le 14 6 w) (read_le 5 0 w)))))))
read_fits F.Pedestal w = both refl (both refl (both (read_le 26 23 w) (both (read_le 22 21 w) (both (read_le 20 12 w) (read_le 11 0 w)))))
read_fits F.Empty w = both refl (both refl (both (read_le 26 22 w) refl))
read_fits F.Filler w = both refl (both refl (both (read_le 26 22 w) refl))
read_fits F.Scalers w = both refl (both refl (both refl (read_le 5 0 w)))
read_fits F.Scaler w = read_le 31 0 w

-- ---- what was taken may stand there

stood : (s : Scan) (w : ℕ) (f : Form) (u : Scan) → Accepted s w f u → Stands s (item_from f w)
stood s w f u a =
    let g : form_of (item_from f w) ≡ f = form_back f w in
    let t : is_of f (word_of (item_from f w)) ≡ true = rw g at (says (item_from f w) (read_fits f w)).tag in
    record {
      limit = a.off.0;
      form = meaning_alike s f (word_of (item_from f w)) w t a.form ∙ ap M.Form (sym g);
      slot = a.off.1.1.0;
      fields = (or_none (not (fixed_in f w)) (item_wrong s (item_from f w)) a.off.1.1.1.0).1;
      count = a.off.1.1.1.1.0;
      widths = read_fits f w;
    }

-- ---- a block that is taken whole

whole_end : (s : Scan) (n : ℕ) → end_of s ≡ Whole n → unfinished s ≡ false
unfolding end_of
whole_end s n e = go (at_limit s) (unfinished s) e
  where
    go : (a b : Bool) → cond a (Broken 14 s.place) (cond b (Broken 11 s.place) (Whole s.place)) ≡ Whole n → b ≡ false
    go true b e = let x : ◌≡◌ {A = ℕ} 0 1 = cc in absurd (omega arith)
    go false true e = let x : ◌≡◌ {A = ℕ} 0 1 = cc in absurd (omega arith)
    go false false e = refl

taken_whole : (s : Scan) (ws : List ℕ) (n : ℕ) → (read_from s ws).out ≡ Whole n → Follow s (read_from s ws).items
unfolding read_from judge_at
taken_whole s [] n e = whole_end s n e
taken_whole s (w ∷ ws) n e = go (step_at s w) refl e (λ t. taken_whole t ws n)
  where
    go : (j : Step) → step_at s w ≡ j → (on_judged (with_item w j) s.place (λ t. read_from t ws)).out ≡ Whole n
        → ((t : Scan) → (read_from t ws).out ≡ Whole n → Follow t (read_from t ws).items)
        → Follow s (on_judged (with_item w j) s.place (λ t. read_from t ws)).items
    go (S.Went f t) q e r =
        let a : Accepted s w f t = accepted s w q in
        (stood s w f t a, subst (λ (u : Scan). Follow u (read_from t ws).items) a.scan (r t e))
    go (S.Refused k p) q e r = let x : ◌≡◌ {A = ℕ} 0 1 = cc in absurd (omega arith)
    go S.Ended q e r = ended s w q

-- what the reader takes as a whole block are records of the layout; `nothing_lost` says that they are the words that were there
pub accepted_block : (ws : List ℕ) (n : ℕ) → (read_from start_of ws).out ≡ Whole n → IsBlock (read_from start_of ws).items
accepted_block ws n e = taken_whole start_of ws n e
