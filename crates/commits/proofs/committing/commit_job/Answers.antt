use Rattle.std.proofs.Common.{◌≡◌, ◌<◌, [], length, sym, ap, ◌∙◌, subst, ap₂, arith, rules}
use Rattle.terms.specs.declared.records.Ending.TheVariants.{Committed}
use Rattle.choosers.specs.Meaning.{moved_on}
use Rattle.rules.specs.Limits.{top}
use Rattle.rules.specs.Registers.{high_of, register_of}
use Rattle.rules.specs.JobCalls.{entry_of}
use Rattle.rules.specs.Performing.{with_book}
use Rattle.admission.specs.Lent.{AllFit}
use Rattle.endings.specs.Endings.{ended_at, MayEnd}
use Rattle.commits.proofs.Stored.{stored_two, stored_all, stored_fits}
use Rattle.commits.proofs.committing.commit_job.Goals as goal

pub returns-clause-committed : goal.returns-clause-committed
returns-clause-committed g c = λ h d.
    let r = register_of _ c.args.head.now c.args.t.now in
    let w = c.args.crew.number in
    let p = c.commit_place-place.result.0 in
    let values = c.store_values.ensures.step h.goes_on.fits h.goes_on.crew d in
    let two = stored_two d r (register_of _ c.args.head.now c.store_values.new.t) (register_of _ c.args.head.now c.set_written_places.new.t) r w p values c.set_written_places.ensures.step in
    let all = stored_all d r (register_of _ c.args.head.now c.store_values.new.t) (register_of _ c.args.head.now c.set_written_places.new.t) (register_of _ c.args.head.now c.lower_highs.new.t) w p values c.set_written_places.ensures.step (c.lower_highs.ensures.step (ap (λ x. length x.tables.jobs) two ∙ h.goes_on.fits.jobs)) in
    let high : c.record_of-job.result.high.0 ≡ high_of r w = ap (λ j. j.high.0) (rw c.new.ensures at c.record_of-job.ensures) in
    let last : c.entry_of.result ≡ entry_of r w p Committed = search rules in
    let at = ap (λ e. e.place.0) last in
    let under : c.entry_of.result.place.0 < top = omega (arith, at, high, c.commit_place-place.ensures.gave, h.goes_on.under_top, h.room, ((g.C.Chooser.lawful c.args.chooser.now).between [] c.args.low.0 c.record_of-job.result.high.0 (omega (arith, high, h.room))).1) in
    let ends : MayEnd (register_of _ c.args.head.now c.lower_highs.new.t) w c.entry_of.result.place.0 = record { fits = subst AllFit (sym all) (stored_fits d r w p h.goes_on.fits); crew = h.goes_on.crew; counted = h.goes_on.counted; under_top = under } in
    record {
      place = c.commit_place-place.ensures.gave ∙ ap₂ (g.C.Chooser.meaning c.args.chooser.now []) h.bound high;
      leaves = c.end_job.ensures.leaves ends ∙ ap₂ (λ x q. with_book (ended_at x w q) c.end_job.new.t.book.now) all at;
      asks = c.commit_place-place.ensures.moved ∙ ap₂ (moved_on (g.C.Chooser.meaning c.args.chooser.now)) h.bound high;
      enters = rw (ap (λ x. x.tables.book) all, last) at (c.end_job.ensures.enters ends);
    }
