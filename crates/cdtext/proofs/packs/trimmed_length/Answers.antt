use borrow.Author.Rules.{rules}
use Rattle.cdtext.proofs.packs.Reading.{none_left, last_left}
use Rattle.cdtext.proofs.packs.trimmed_length.Goals as goal

pub returns : goal.returns
returns c = search (rules, none_left, last_left)
