-- `writer::post` meets its contract: the row is a part of the store, and the window stands in it. Assumes nothing.
use Rattle.std.proofs.Common.{sym, ap, ◌∙◌, ℕ, ◌+◌, ◌≤◌, ◌*◌, arith, length}
use Rattle.ground.specs.Splice.{splice}
use Rattle.copies.specs.CopiesLaws.{pasted_fits}
use Rattle.state.specs.State.{with_mark}
use Rattle.refusing.specs.TablesLaws.{PostAccepted, post_accepted}
use Rattle.writer.specs.CallsLaws.{window_fits}
use Rattle.writer.proofs.post.Goals as goal
use Rattle.writer.proofs.post.Goals.{In_ok-post_check}

-- where the post is accepted
known : (c : In_ok-post_check) → let a = c.args in PostAccepted a.state.now (length a.store.now) a.channel a.window.now
known c = post_accepted _ _ _ _ (sym c.in_ok-post_check.ensures)

fits : (c : In_ok-post_check) → let a = c.args in a.channel * length a.window.now + length a.window.now ≤ length a.store.now
fits c = window_fits _ _ _ _ (known c)

pub overflow_mul-start : goal.overflow_mul-start
overflow_mul-start c = omega (arith, fits c, c.well_formed)

pub bounds-state-channel : goal.bounds-state-channel
bounds-state-channel c = omega (arith, (known (goal.at.bounds-state-channel c).In_ok-post_check).channel)

pub returns : goal.returns
unfolding with_mark
returns c =
    let a = c.args in
    let w = a.window.now in
    let number = c.in_ok-post_check.ensures in
    let place = c.args.channel * length w in
    record {
      refusal = number;
      state = rw (← number);
      rows =
          rw (← number)
          (c.put.ensures ∙ pasted_fits a.store.now place w (fits (goal.at.returns c).In_ok-post_check) ∙ ap (λ (n : ℕ). splice a.store.now (a.channel * n) w) (known (goal.at.returns c).In_ok-post_check).whole);
    }
