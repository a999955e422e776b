use borrow.Author.Rules.{rules}
use Rattle.cdtext.specs.Packs.{packs_size}
use Rattle.cdtext.proofs.packs.packs_size.Goals as goal

pub returns-then-contains : goal.returns-then-contains
unfolding packs_size
returns-then-contains c = search rules

pub returns-else-contains : goal.returns-else-contains
unfolding packs_size
returns-else-contains c = search rules
