-- The rule of a pulse's time is the first that holds, and that is all that an answer needs besides. Assumes nothing.
use Prim.Native.Nat.{ℕ, zero, suc, ◌+◌, ◌-◌, ◌≤◌}
use Rattle.std.specs.Prelude.{◌≡◌, Bool, true, false, cond, List, [], ◌∷◌, map, ltb, eqb, length, get_or}
use Rattle.std.proofs.Math.Path.{refl}
use Rattle.std.proofs.Common.{ap, ap₂, ◌∙◌, arith, eqb-true}
use Rattle.ground.specs.Tests.{first_of}
use Rattle.settings.specs.declared.Settings.{Settings}
use Rattle.std.specs.declared.result.Result.{Result}
use Rattle.refusals.specs.declared.Refusal.{Refusal}
use Rattle.refusals.specs.Refusal.{told}
use Rattle.search.specs.Search.{tc_from, early}
use Rattle.timing.specs.declared.Rule.TheVariants.{Early, Late, Flat}
use Rattle.timing.specs.Time.{vmin, first_fall, tc_only, edge_time, after_fall, time_at, rule_number}
use Rattle.finder.specs.declared.Pulse.{Pulse}
use Rattle.finder.specs.declared.Pulses.{Pulses}
use Rattle.finder.specs.Find.{pulse_at, pulses_from, packed}
use Rattle.finder.specs.RangeLaws.{pulses_count, packed_back}
use Rattle.find.specs.Call.{find_number, channel_pulses, found_pulses, rule_table, rules_of, found_rules, found_in, FindSays}
use Rattle.find.specs.CallLaws.{accepted, found_none, found_all}

rule_first : (w : List ℕ) (t tc : ℕ) → rule_number (time_at w t tc).rule ≡ first_of (rule_table w t tc)
unfolding time_at after_fall edge_time rule_table first_of
rule_first w t tc = go (early w t) (ltb (length w - tc) 5) (eqb (first_fall w tc) 0)
  where
    go : (a b d : Bool) → rule_number (cond a (tc_only tc 0 Early) (cond b (tc_only tc (vmin w) Late) (cond d (tc_only tc (vmin w) Flat) (edge_time w (vmin w) (first_fall w tc - 1))))).rule ≡ cond a 1 (cond b 2 (cond d 3 4))
    go true b d = refl
    go false true d = refl
    go false false true = refl
    go false false false = refl

module _ (w : List ℕ) (t nsb nsa : ℕ) where
  rules_from : (n s : ℕ) → map (λ (p : Pulse). rule_number p.time.rule) (pulses_from w t nsb nsa n s) ≡ map (λ (p : Pulse). first_of (rule_table w t p.tc)) (pulses_from w t nsb nsa n s)
  unfolding pulses_from pulse_at
  rules_from zero s = refl
  rules_from (suc n) s = go (eqb (tc_from w t s) 0) (rules_from n (tc_from w t s + nsa))
    where
      x : Pulse
      x = pulse_at w t nsb nsa (tc_from w t s)

      rest : List Pulse
      rest = pulses_from w t nsb nsa n (tc_from w t s + nsa)

      go : (b : Bool) → map (λ (p : Pulse). rule_number p.time.rule) rest ≡ map (λ (p : Pulse). first_of (rule_table w t p.tc)) rest
          → map (λ (p : Pulse). rule_number p.time.rule) (cond b [] (x ∷ rest)) ≡ map (λ (p : Pulse). first_of (rule_table w t p.tc)) (cond b [] (x ∷ rest))
      go true e = refl
      go false e = ap₂ (λ (k : ℕ) (l : List ℕ). k ∷ l) (rule_first w t (tc_from w t s)) e

rules_found : (s : Settings) (c : ℕ) (w : List ℕ) → rules_of (packed (found_pulses s c w)) ≡ found_rules s c w
unfolding found_rules channel_pulses packed
rules_found s c w = go (eqb (find_number s c w) 0) refl
  where
    go : (b : Bool) → eqb (find_number s c w) 0 ≡ b → rules_of (packed (found_pulses s c w)) ≡ map (λ (p : Pulse). first_of (rule_table w (get_or s.thresholds c 0) p.tc)) (found_pulses s c w)
    go true e =
        let a = accepted s c w (eqb-true _ _ e) in
        let few : length (channel_pulses s c w) ≤ 3 = omega (arith, pulses_count w (get_or s.thresholds c 0) s.nsb s.nsa s.limit 0, a.settings.limit) in
        rw (found_all s c w e) (ap (map (λ (p : Pulse). rule_number p.time.rule)) (packed_back (channel_pulses s c w) few) ∙ rules_from w (get_or s.thresholds c 0) s.nsb s.nsa s.limit 0)
    go false e = rw (found_none s c w e)

-- an answer by its refusal and its pulses
pub find_says : (s : Settings) (c : ℕ) (w : List ℕ) {r : Result Pulses Refusal} → told r ≡ find_number s c w → found_in r ≡ packed (found_pulses s c w) → FindSays s c w r
find_says s c w e f = record { refusal = e; found = f; rules = ap rules_of f ∙ rules_found s c w }
