-- The bench's sheets, computed from the definitions.
use mathlib.Core.Path.{refl}
use Rattle.basics.specs.Bytes.{bytes32, be32, sum_of, all_zero}
use Rattle.mmc.specs.Block.{check_sum, sealed, block_fault, block_read}
use Rattle.mmc.specs.Order.{all_none, valid_order, all_kind, all_long, blocks_of, mixed_or_kept, overlong}
use Rattle.mmc.specs.OrderBlock.{method_of, keep_of, protect_of, immed_of, erase_of, row, rows, order_body, order_bytes, order_block, track_of, tracks_of, kinds_ok, fields_of, head_ok, order_ok, read_order}
use Rattle.mmc.specs.Times.{in_range, has_time, frames_to, address_at, is_time, time_frames, address_at_time, time_of, address_of}
use Rattle.mmc.specs.Page.{page, page_fault}
use Rattle.mmc.specs.Sheet.{sheet_fault, cue_entry, lead_in_entry, pause_entry, start_entry, lead_out_entry, track_entries, sheet_of, cue_sheet}
use Rattle.mmc.specs.Commands.{write_range, write_bytes, write_command, close_track_session}
use Rattle.mmc.specs.Bench.{LayoutSheets, LayoutCases}

pub layout_sheets : LayoutSheets
unfolding bytes32 be32 sum_of all_zero check_sum sealed block_fault block_read all_none valid_order all_kind all_long blocks_of mixed_or_kept overlong method_of keep_of protect_of immed_of erase_of row rows order_body order_bytes order_block track_of tracks_of kinds_ok fields_of head_ok order_ok read_order in_range has_time frames_to time_frames time_of page sheet_fault cue_entry lead_in_entry pause_entry start_entry lead_out_entry track_entries sheet_of cue_sheet write_range write_bytes write_command close_track_session
layout_sheets =
    record {
      block = refl;
      counts = refl;
      lengths = refl;
      lead_outs = refl;
      entries = refl;
      page_start = refl;
      times = refl;
      first_write = refl;
    }

pub layout_cases : LayoutCases
unfolding bytes32 be32 sum_of all_zero check_sum sealed block_fault block_read all_none valid_order method_of keep_of protect_of immed_of erase_of row rows order_body order_bytes order_block track_of tracks_of kinds_ok fields_of head_ok order_ok read_order close_track_session all_kind all_long blocks_of mixed_or_kept overlong page sheet_fault page_fault in_range has_time frames_to address_at is_time time_frames address_at_time time_of address_of write_range write_bytes write_command
layout_cases =
    record {
      mixed_or_kept_case = refl;
      audio_in_tao = refl;
      audio_page = (refl, refl);
      time_ends = refl;
      address_ends = refl;
      write_ends = refl;
      immed = refl;
      erase = refl;
      flags = refl;
      no_flag = refl;
      recipes = refl;
      recipes_written = refl;
      recipes_made = refl;
      synchronize = refl;
      close = refl;
      ready = refl;
      sense = refl;
      blanks = refl;
      blanks_at_once = refl;
    }
