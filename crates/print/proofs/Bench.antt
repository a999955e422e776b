-- The example texts, computed from the definitions.
use mathlib.Core.Path.{refl}
use Rattle.basics.specs.Bytes.{bytes32, be32, sum_of, all_zero}
use Rattle.mmc.specs.Refusals.{buffer_of}
use Rattle.mmc.specs.Block.{check_sum, sealed, block_fault, block_read}
use Rattle.mmc.specs.Order.{all_none, valid_order}
use Rattle.mmc.specs.OrderBlock.{method_of, keep_of, protect_of, row, rows, order_body, order_bytes, track_of, tracks_of, kinds_ok, fields_of, head_ok, order_ok, read_order, erase_of}
use Rattle.mmc.specs.ReplyBlock.{reply_head, reply_body, reply_bytes, reply_ok, reply_in, read_reply}
use Rattle.recorder.specs.Replies.{has_sense, sense_of, long_write, is_busy, read_failed, whole_profile, read_profile, whole_disc, disc_of, read_disc, whole_information, read_information}
use Rattle.recorder.specs.Answers.{cdb_of}
use Rattle.recorder.specs.Rules.{other_profile, unsuitable}
use Rattle.recorder.specs.Job.{in_order, stands_in, take_of, give_of}
use Rattle.ascii.specs.Text.{codes, parted, leading, decimal}
use Rattle.lines.specs.Lines.{command_line, counted_line, waiting_line, stop_text, stop_line, failed_line}
use Rattle.print.specs.Run.{cut, input_blocks, fed, begun_with}
use Rattle.print.specs.Bench.{ExampleTexts}

pub example_texts : ExampleTexts
unfolding bytes32 be32 sum_of all_zero buffer_of check_sum sealed block_fault block_read all_none valid_order method_of keep_of protect_of row rows order_body order_bytes track_of tracks_of kinds_ok fields_of head_ok order_ok read_order reply_head reply_body reply_bytes reply_ok reply_in read_reply has_sense sense_of long_write is_busy read_failed whole_profile read_profile whole_disc disc_of read_disc whole_information read_information cdb_of other_profile unsuitable in_order stands_in take_of give_of codes parted leading decimal command_line counted_line waiting_line stop_text stop_line failed_line cut input_blocks fed begun_with erase_of
example_texts =
    record {
      finalized = refl;
      none = refl;
      short = refl;
      waits = refl;
      piece = refl;
      two_orders = refl;
      no_order = refl;
      busy = refl;
    }
