-- The short inputs, computed from the definitions.
use mathlib.Core.Path.{refl}
use Rattle.basics.specs.Bytes.{bytes32, be32, sum_of, all_zero}
use Rattle.mmc.specs.Refusals.{buffer_of}
use Rattle.mmc.specs.Block.{check_sum, sealed, block_fault, block_read}
use Rattle.mmc.specs.Order.{no_order, all_none, valid_order}
use Rattle.mmc.specs.OrderBlock.{method_of, keep_of, protect_of, immed_of, erase_of, row, rows, order_body, order_bytes, track_of, tracks_of, kinds_ok, fields_of, head_ok, order_ok, read_order}
use Rattle.mmc.specs.ReplyBlock.{reply_head, reply_body, reply_bytes, reply_ok, reply_in, read_reply}
use Rattle.recorder.specs.Replies.{has_sense, sense_of, long_write, is_busy, read_failed, whole_profile, read_profile, whole_disc, disc_of, read_disc, whole_information, read_information}
use Rattle.recorder.specs.Answers.{cdb_of}
use Rattle.recorder.specs.Rules.{other_profile, unsuitable}
use Rattle.recorder.specs.Job.{in_order, stands_in, take_of, give_of}
use Rattle.ascii.specs.Text.{codes, parted, leading, decimal}
use Rattle.lines.specs.Lines.{counted_line}
use Rattle.lines.specs.Shown.{pair, how_far, percent, busy_line, idle_line, finished_line, waiting_shown, failure, words_of, reason, stopped_line}
use Rattle.watch.specs.Bench.{ExampleStages}

pub example_stages : ExampleStages
unfolding bytes32 be32 sum_of all_zero buffer_of check_sum sealed block_fault block_read all_none valid_order method_of keep_of protect_of immed_of erase_of row rows order_body order_bytes track_of tracks_of kinds_ok fields_of head_ok order_ok read_order reply_head reply_body reply_bytes reply_ok reply_in read_reply has_sense sense_of long_write is_busy read_failed whole_profile read_profile whole_disc disc_of read_disc whole_information read_information cdb_of other_profile unsuitable in_order stands_in take_of give_of codes parted leading decimal no_order pair how_far percent busy_line idle_line finished_line waiting_shown failure words_of reason stopped_line counted_line
example_stages =
    record {
      before = (refl, refl);
      none = (refl, refl);
      short = (refl, refl);
      taken = (refl, refl);
      runs_out = (refl, refl);
      piece = (refl, refl);
      two_orders = (refl, refl);
      good = (refl, refl);
      failed = (refl, refl);
    }
