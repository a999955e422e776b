use Rattle.std.proofs.Common.{sym, ◌∙◌, arith}
use borrow.Author.Tests.{eq-eqb, ne_eqb}
use Rattle.mmc.proofs.block.Laws.{first_fault}
use Rattle.mmc.proofs.block.check_first.Goals as goal

pub returns-then-number16-sum : goal.returns-then-number16-sum
returns-then-number16-sum c =
    sym (
    first_fault c.args.b.now c.args.n _ _ (omega arith) c.requires.0 c.requires.1 c.number16.ensures.0 c.byte_sum-sum.ensures
    ∙ simp (ne_eqb _ _ c.if-number16-sum.true))

pub returns : goal.returns
returns c =
    sym (
    first_fault c.args.b.now c.args.n _ _ (omega arith) c.requires.0 c.requires.1 c.number16.ensures.0 c.byte_sum-sum.ensures
    ∙ simp (eq-eqb _ _ c.if-number16-sum.false))
