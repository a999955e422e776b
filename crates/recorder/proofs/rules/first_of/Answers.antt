use Rattle.std.proofs.Common.{◌≡◌, ℕ, ◌+◌, ◌<◌, Bool, false, List, length, get_or, drop, add-one, drop-cons}
use Rattle.basics.specs.Bytes.{if}
use Rattle.mmc.specs.Refusals.{number_of}
use Rattle.mmc.specs.declared.refusals.Refusal.{Refusal}
use Rattle.mmc.specs.declared.refusals.Refusal.TheVariants.{BlockLength}
use Rattle.recorder.specs.declared.script.Op.{Op}
use Rattle.recorder.specs.Answers.{because}
use Rattle.recorder.specs.Rules.{refused, tested, tests_in}
use Rattle.recorder.proofs.rules.first_of.Goals as goal

-- of the tests from one on, this one is looked at first
at_test : (ts : List (Bool × Refusal)) (i : ℕ) (z : Bool × Refusal) (xs : List Op) → i < length ts → if (get_or ts i z).0 (refused (because (number_of (get_or ts i z).1))) (tested (tests_in (drop (i + 1) ts)) xs) ≡ tested (tests_in (drop i ts)) xs
at_test ts i z xs h = rw (add-one, drop-cons ts i z)

pub returns-then-applies : goal.returns-then-applies
returns-then-applies c =
    λ xs. rw (← c.loop-applies.invariant xs, ← at_test c.args.tests.now c.loop-applies.applies-index (false, BlockLength) xs c.loop-applies-test.true, c.if-applies.true)

pub loop-applies-preserved : goal.loop-applies-preserved
loop-applies-preserved c =
    λ xs. rw (← c.loop-applies.invariant xs, ← at_test c.args.tests.now c.loop-applies.applies-index (false, BlockLength) xs c.loop-applies-test.true, c.if-applies.false)
