use Rattle.std.proofs.Common.{◌≡◌, sym, ap, ◌∙◌, arith, rules}
use Rattle.std.proofs.lemmas.Grind.{common_steps}
use Rattle.mmc.specs.Block.{block_fault}
use Rattle.mmc.specs.ReplyBlock.{read_reply, reply_ok, reply_in}
use Rattle.mmc.proofs.block.Laws.{wrong_length, read_faulty, read_whole}
use Rattle.mmc.proofs.reply_block.Laws.{summed, written}
use Rattle.mmc.proofs.reply_block.read_reply.Goals as goal

pub returns-in_err-block : goal.returns-in_err-block
unfolding read_reply
returns-in_err-block c =
    let b = c.args.b.now in
    let w = c.in_err-block.ensures.refusal in
    let f = read_faulty b (reply_ok b) (reply_in b) c.in_err-block.field-0.0 (rw (w.0) (wrong_length b w.1)) in
    record { answer = grind (arith, common_steps); written = written b (search rules) }

pub check_first-requires : goal.check_first-requires
check_first-requires c =
    summed c.in_ok-block.block.now c.data_end-end.result c.filled.result c.all_zero-zero.result (omega arith) c.all_zero-zero.ensures c.filled.ensures

pub returns-in_err-check_first : goal.returns-in_err-check_first
unfolding read_reply
returns-in_err-check_first c =
    let b = c.args.b.now in
    let e = ap block_fault (sym c.in_ok-block.ensures.block) ∙ sym c.in_err-check_first.ensures in
    let f = read_faulty b (reply_ok b) (reply_in b) c.in_err-check_first.field-0.0 e in
    record { answer = grind (arith, common_steps); written = written b (search rules) }

pub returns : goal.returns
unfolding read_reply
returns c =
    let b = c.args.b.now in
    let e : block_fault b ≡ 0 = ap block_fault (sym c.in_ok-block.ensures.block) ∙ sym c.in_ok-check_first.ensures in
    record {
      answer = rw (c.in_ok-block.ensures.block) at c.read_fields.ensures ∙ sym (read_whole b (reply_ok b) (reply_in b) e);
      written = written b (search rules);
    }
