use Rattle.std.proofs.Common.{◌≤◌, ◌<◌, ◌∙◌, sym, ap, List, ℕ, take, length}
use borrow.Author.Tests.{lt-leb, le-leb}
use Rattle.mmc.specs.Refusals.{pass}
use Rattle.mmc.specs.Block.{sealed}
use Rattle.mmc.specs.ReplyBlock.{reply_said, reply_block}
use Rattle.mmc.specs.declared.refusals.Refusal.TheVariants.{FieldValue}
use Rattle.mmc.proofs.refusals.Laws.{fills_of, fills_not}
use Rattle.mmc.proofs.reply_block.Laws.{block_put, reads_back}
use Rattle.mmc.proofs.reply_block.write_reply.Goals as goal

pub returns-then-bytes-gt-MOST_DATA : goal.returns-then-bytes-gt-MOST_DATA
unfolding reply_block
returns-then-bytes-gt-MOST_DATA c =
    let x = reply_said c.args.reply in
    let much : 506 < length x.bytes = rw (c.bytes.ensures) at c.if-bytes-gt-MOST_DATA.true in
    record { filled = fills_not FieldValue c.args.out.now (simp (lt-leb _ _ much)); reads_back = reads_back x }

pub returns : goal.returns
unfolding reply_block
returns c =
    let x = reply_said c.args.reply in
    let few : length x.bytes ≤ 506 = rw (c.bytes.ensures) at c.if-bytes-gt-MOST_DATA.false in
    let b = c.put_check.ensures ∙ ap (λ (d : List ℕ). sealed (take 510 d)) c.put_reply.ensures ∙ block_put x few in
    record { filled = fills_of (simp (le-leb _ _ few) (ap pass (sym b))) c.fill.ensures; reads_back = reads_back x }
