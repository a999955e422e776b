-- The bench's sheets, computed from the definitions.
use mathlib.Core.Path.{refl}
use Rattle.basics.specs.Bytes.{bytes32, be32, sum_of, all_zero}
use Rattle.mmc.specs.Block.{check_sum, sealed, block_fault, block_read}
use Rattle.mmc.specs.OrderBlock.{method_of, keep_of, protect_of, immed_of, erase_of, row, rows, order_body, order_bytes, order_block, track_of, tracks_of, kinds_ok, fields_of, head_ok, order_ok, read_order}
use Rattle.mmc.specs.Page.{page}
use Rattle.mmc.specs.Order.{all_none, valid_order, all_kind, all_long, blocks_of, mixed_or_kept, overlong}
use Rattle.mmc.specs.Times.{in_range, has_time, frames_to, address_at, time_frames, time_of}
use Rattle.mmc.specs.Commands.{write_range, write_bytes, write_command, send_cue_sheet, close_track_session}
use Rattle.mmc.specs.Sheet.{sheet_size, sheet_fault, cue_entry, lead_in_entry, pause_entry, start_entry, lead_out_entry, track_entries, sheet_of, cue_sheet}
use Rattle.recorder.specs.Replies.{has_sense, sense_of, long_write, is_busy, read_failed, not_ready, is_unready, read_unready, progress_of, read_progress, whole_profile, read_profile, whole_disc, disc_of, read_disc, whole_information, information_of, read_information}
use Rattle.recorder.specs.Rules.{other_profile, unsuitable, unusable, fits, too_long, used, not_erasable}
use Rattle.recorder.specs.Job.{in_order, in_time, in_piece, is_write, stands_in}
use Rattle.recorder.specs.Bench.{PollSheets, EraseSheets, ChargeSheets, AudioSheets, RecipeSheets, StarredSheets, OtherSheets}

pub poll_sheets : PollSheets
unfolding sheet_size send_cue_sheet close_track_session frames_to bytes32 be32 all_kind all_long blocks_of in_range address_at write_range write_bytes write_command has_sense sense_of long_write is_busy read_failed not_ready is_unready read_unready progress_of read_progress whole_profile read_profile whole_disc disc_of read_disc whole_information information_of read_information other_profile unsuitable unusable mixed_or_kept fits in_order in_time in_piece is_write stands_in
poll_sheets =
    record {
      each_track = refl;
      session = refl;
      commands = refl;
      any_qualifier = refl;
      not_unready = refl;
      triple_of_poll = refl;
      rounds = refl;
      without_bit = refl;
      nothing_else = refl;
      busy_sense = refl;
      each_round = refl;
      sense_fails = refl;
      sense_short = refl;
      latest = refl;
      forged = refl;
    }

pub erase_sheets : EraseSheets
unfolding sheet_size send_cue_sheet close_track_session frames_to bytes32 be32 all_kind all_long blocks_of in_range address_at write_range write_bytes write_command has_sense sense_of long_write is_busy read_failed not_ready is_unready read_unready progress_of read_progress whole_profile read_profile whole_disc disc_of read_disc whole_information information_of read_information other_profile unsuitable unusable mixed_or_kept fits in_order in_time in_piece is_write stands_in too_long used not_erasable
erase_sheets =
    record {
      commands = refl;
      used = refl;
      blank = refl;
      unflagged = refl;
      not_erasable = refl;
      in_turn = refl;
      on_blank = refl;
      alone = refl;
      again = refl;
      at_52 = refl;
      erase_fails = refl;
      polled = refl;
      counts = refl;
      said = refl;
      forged = refl;
    }

pub charge_sheets : ChargeSheets
unfolding sheet_size send_cue_sheet close_track_session frames_to bytes32 be32 all_kind all_long blocks_of in_range address_at write_range write_bytes write_command has_sense sense_of long_write is_busy read_failed not_ready is_unready read_unready progress_of read_progress whole_profile read_profile whole_disc disc_of read_disc whole_information information_of read_information other_profile unsuitable unusable mixed_or_kept fits in_order in_time in_piece is_write stands_in too_long used not_erasable
charge_sheets = record { first_free = refl; later_free = refl; first_end = refl; later_end = refl; session = refl; lasting = refl }

pub audio_sheets : AudioSheets
unfolding sheet_size send_cue_sheet close_track_session frames_to bytes32 be32 all_kind all_long blocks_of in_range address_at write_range write_bytes write_command has_sense sense_of long_write is_busy read_failed not_ready is_unready read_unready progress_of read_progress whole_profile read_profile whole_disc disc_of read_disc whole_information information_of read_information other_profile unsuitable unusable mixed_or_kept fits in_order in_time in_piece is_write stands_in too_long used not_erasable
audio_sheets = record { each_place = refl; passing = refl; in_turn = refl; before_erasing = refl; commands = refl }

pub recipe_sheets : RecipeSheets
unfolding sheet_size send_cue_sheet close_track_session frames_to bytes32 be32 all_kind all_long blocks_of in_range address_at write_range write_bytes write_command has_sense sense_of long_write is_busy read_failed not_ready is_unready read_unready progress_of read_progress whole_profile read_profile whole_disc disc_of read_disc whole_information information_of read_information other_profile unsuitable unusable mixed_or_kept fits in_order in_time in_piece is_write stands_in too_long used not_erasable
recipe_sheets = record { command_counts = refl; commands = refl; polled = refl; closed = refl; forged = refl }

pub starred_sheets : StarredSheets
unfolding sheet_size send_cue_sheet close_track_session frames_to bytes32 be32 all_kind all_long blocks_of in_range address_at write_range write_bytes write_command has_sense sense_of long_write is_busy read_failed whole_profile read_profile whole_disc disc_of read_disc whole_information information_of read_information other_profile unsuitable unusable mixed_or_kept fits in_order in_time in_piece is_write stands_in sum_of all_zero check_sum sealed block_fault block_read all_none valid_order method_of keep_of protect_of immed_of erase_of row rows order_body order_bytes order_block track_of tracks_of kinds_ok fields_of head_ok order_ok read_order has_time time_frames time_of page sheet_fault overlong cue_entry lead_in_entry pause_entry start_entry lead_out_entry track_entries sheet_of cue_sheet
starred_sheets =
    record {
      block = refl;
      counts = refl;
      lengths = refl;
      short_or_long = refl;
      room = refl;
      lead_outs = refl;
      last_lead_out = refl;
      second_address = refl;
      entries = refl;
      page_start = refl;
      times = refl;
      first_write = refl;
      write_given = refl;
      command_counts = refl;
    }

pub other_sheets : OtherSheets
unfolding sheet_size send_cue_sheet close_track_session frames_to bytes32 be32 all_kind all_long blocks_of in_range address_at write_range write_bytes write_command has_sense sense_of long_write is_busy read_failed whole_profile read_profile whole_disc disc_of read_disc whole_information information_of read_information other_profile unsuitable unusable mixed_or_kept fits in_order in_time in_piece is_write stands_in
other_sheets =
    record {
      commands = refl;
      finalized = refl;
      appendable = refl;
      other_profile = refl;
      damaged = refl;
      unaddressed = refl;
      rewritable = refl;
      mixed = refl;
      kept = refl;
      tao_free = refl;
      other_type = refl;
      busy = refl;
      busy_valid = refl;
      deferred = refl;
      too_short = refl;
      not_busy = refl;
      triple = refl;
      deferred_triple = refl;
      no_triple = refl;
      short_triple = refl;
      least_bytes = refl;
      more_bytes = refl;
      more_said = refl;
      least_46 = refl;
      least_51 = refl;
      least_52 = refl;
      other_bits = refl;
      wide_profile = refl;
      unsigned = refl;
      far_page = refl;
      far_sheet = refl;
      empty_track = refl;
    }
