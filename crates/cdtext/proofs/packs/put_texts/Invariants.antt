use Rattle.cdtext.proofs.packs.Putting.{Putting}
use Rattle.cdtext.proofs.packs.put_texts.Given as goal

abbrev pub invariant-loop-k : goal.invariant-loop-k
invariant-loop-k l = Putting l.run l.n l.initial.out l.out l.place l.k
