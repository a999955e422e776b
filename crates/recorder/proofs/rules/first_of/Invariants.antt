use Rattle.std.proofs.Common.{◌≡◌, List, drop}
use Rattle.recorder.specs.declared.script.Op.{Op}
use Rattle.recorder.specs.Rules.{tested, tests_in}
use Rattle.recorder.proofs.rules.first_of.Given as goal

-- none before this one applies
abbrev pub invariant-loop-applies : goal.invariant-loop-applies
invariant-loop-applies l =
    (xs : List Op) → tested (tests_in (drop l.applies-index l.tests)) xs ≡ tested (tests_in l.tests) xs
