-- One law of the step for each exit; what the walk asks is what the checks let pass and what settling left.
use Rattle.std.proofs.Common.{ℕ, refl, ap, subst, arith}
use Rattle.std.proofs.lemmas.List.{length-replicate}
use Rattle.std.proofs.lemmas.Result.{err_from_is_err_and}
use Rattle.words.specs.Refusals.{told_number, spec_number}
use Rattle.words.proofs.RefusalLaws.{number_some}
use Rattle.words.specs.Records.{as_run}
use Rattle.view.specs.Check.{as_field, store_of}
use Rattle.view_read.specs.Read.{settled_of}
use Rattle.matcher.specs.declared.Goal.{Goal}
use Rattle.listing.specs.Match.{Started, matched_of, request_of}
use Rattle.listing.specs.RefusalLaws.{within_8}
use Rattle.listing.specs.ListLaws.{Settled, settled_from, store-after, few_after, pattern_after, start-inside, ready_start, slots_start}
use Rattle.listing.specs.ListLaws.{exit_refused, exit_start, exit_names, exit_full, exit_done}
use Rattle.listing.proofs.list.Goals as goal
use Rattle.listing.proofs.list.Goals.{In_ok-run}

pub returns-in_err-check_request : goal.returns-in_err-check_request
unfolding matched_of told_number
returns-in_err-check_request c =
    let p = err_from_is_err_and c.from_residual.result c.from_residual.ensures.1 in
    rw (p.1, p.2) (exit_refused _ _ _ c.in_err-check_request.ensures (number_some _))

pub returns-then-bindings-gt-NAME_LIMIT : goal.returns-then-bindings-gt-NAME_LIMIT
unfolding matched_of told_number spec_number
returns-then-bindings-gt-NAME_LIMIT c = exit_start _ _ _ c.in_ok-check_request.ensures refl c.if-bindings-gt-NAME_LIMIT.true

pub number_names-requires : goal.number_names-requires
unfolding told_number
number_names-requires c =
    let y = within_8 _ _ _ _ c.in_ok-check_request.ensures refl in
    record { room = (y.short, omega arith, omega arith); rules = (y.pattern, y.bindings) }

pub returns-in_default : goal.returns-in_default
unfolding matched_of told_number spec_number
returns-in_default c =
    exit_names _ _ _ c.in_ok-check_request.ensures refl (rw c.in_default.is at c.number_names.ensures.counted) (omega arith)

pub settle-requires : goal.settle-requires
unfolding told_number
settle-requires c =
    let y = within_8 _ _ _ _ c.in_ok-check_request.ensures refl in
    record { lies = (y.values.fits, y.terms); shows = record { used = _; store = y.store; reaches = record { low = y.low; fits = y.within } } }

pub returns-in_err-run : goal.returns-in_err-run
unfolding matched_of settled_of told_number
returns-in_err-run c =
    let p = err_from_is_err_and c.from_residual-in_err-run.result c.from_residual-in_err-run.ensures.1 in
    let y = within_8 _ _ _ _ c.in_ok-check_request.ensures refl in
    let counted = rw c.in-Some.is at c.number_names.ensures.counted in
    let few = rw c.in-Some.is at c.number_names.ensures.few in
    rw (p.1, p.2)
    (exit_full _ _ _ c.in_ok-check_request.ensures refl counted few _ _ _ _
    (c.settle.ensures _ y.store (record { low = y.low; fits = y.within })) (ap settled_of c.in_err-run.was))

-- ---- after settling: what the checks 1 to 9 let pass, and what settling left ----

settled : (c : In_ok-run) → Settled (store_of c.args.names.now c.args.terms.now c.args.terms_used.now c.args.nodes.now c.args.nodes_used)
    (request_of (as_field c.args.f) c.args.pattern.now c.args.bindings.now c.args.slots.now) c.in-Some.entries c.number_names.new.numbers
    (as_run c.in_ok-run.run') c.settle.new.terms c.settle.new.terms_used
unfolding settled_of told_number
settled c =
    let y = within_8 _ _ _ _ c.in_ok-check_request.ensures refl in
    let counted = rw c.in-Some.is at c.number_names.ensures.counted in
    let few = rw c.in-Some.is at c.number_names.ensures.few in
    let numbers = c.number_names.ensures.numbers (rw c.in-Some.is refl) in
    settled_from _ _ _ _ _ _ _ _ y counted (λ _. numbers) few (omega (arith, c.number_names.auto.numbers, length-replicate {A = ℕ} 256 0))
    (c.settle.ensures _ y.store (record { low = y.low; fits = y.within })) (ap settled_of c.in_ok-run.was)

pub gather-given-requires-clause-store : goal.gather-given-requires-clause-store
gather-given-requires-clause-store c =
    let o = settled (goal.at.gather-given-requires-clause-store c).In_ok-run in
    (store-after _ _ _ _ _ _ _ o, few_after _ _ _ _ _ _ _ o)

pub gather-given-requires-clause-pattern : goal.gather-given-requires-clause-pattern
gather-given-requires-clause-pattern c = pattern_after _ _ _ _ _ _ _ (settled (goal.at.gather-given-requires-clause-pattern c).In_ok-run)

pub walk_from-tally-requires : goal.walk_from-tally-requires
walk_from-tally-requires c =
    let o = settled (goal.at.walk_from-tally-requires c).In_ok-run in
    rw c.gather-given.ensures (record {
      inside = start-inside _ _ _ _ _ _ _ o;
      few = omega arith;
      ready = ready_start _ _ _ _ _ _ _ o c.args.slots.now;
      open_slots = rw c.slots_in-cap.ensures (slots_start _ _ _ _ _ _ _ o c.args.slots.now c.args.head);
    })

pub returns : goal.returns
unfolding told_number
returns c =
    let o = settled (goal.at.returns c).In_ok-run in
    let g : Goal = record { entries = c.in-Some.entries; cap = c.slots_in-cap.result; head = c.args.head } in
    let walked = subst (λ v. Started v c.args.bindings.now c.in_ok-run.run' g c.walk_from-tally.result c.args.slots.now c.walk_from-tally.new.slots)
    c.gather-given.ensures c.walk_from-tally.ensures in
    exit_done _ _ _ c.in_ok-check_request.ensures refl _ _ _ _ _ o _ refl _ _ c.slots_in-cap.ensures refl walked c.walk_from-tally.auto.slots c.answer.ensures
