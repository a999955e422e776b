use Rattle.cdtext.proofs.titles.Steps.{Counting}
use Rattle.cdtext.proofs.titles.count_titles.Given as goal

abbrev pub invariant-loop-x : goal.invariant-loop-x
invariant-loop-x l = Counting l.run l.titles l.characters l.x-index
