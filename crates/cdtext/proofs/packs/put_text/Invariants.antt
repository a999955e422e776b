use Rattle.cdtext.proofs.packs.Reading.{Gathering}
use Rattle.cdtext.proofs.packs.put_text.Given as goal

abbrev pub invariant-loop-k : goal.invariant-loop-k
invariant-loop-k l = Gathering l.b l.n l.initial.text l.text l.k
