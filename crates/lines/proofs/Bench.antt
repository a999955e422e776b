-- The example lines, computed from the definitions.
use mathlib.Core.Path.{refl}
use Rattle.recorder.specs.Answers.{cdb_of}
use Rattle.ascii.specs.Text.{codes, parted, leading, decimal}
use Rattle.lines.specs.Lines.{command_line, counted_line, done_line, waiting_line, stop_text, stop_line, failed_line}
use Rattle.lines.specs.Shown.{pair, how_far, percent, busy_line, idle_line, finished_line, waiting_shown, failure, words_of, reason, stopped_line}
use Rattle.lines.specs.Bench.{ExampleLines, ExampleShown}

pub example_lines : ExampleLines
unfolding cdb_of codes parted leading decimal command_line counted_line done_line waiting_line stop_text stop_line failed_line
example_lines =
    record {
      command = refl;
      stopped = refl;
      six = refl;
      failed = refl;
      ended = refl;
      none = refl;
      largest = refl;
    }

pub example_shown : ExampleShown
unfolding codes parted leading decimal counted_line pair how_far percent busy_line idle_line finished_line waiting_shown failure words_of reason stopped_line
example_shown =
    record {
      before_order = refl;
      first = refl;
      information = refl;
      write = refl;
      pause = refl;
      begun = refl;
      half = refl;
      nearly = refl;
      unpolled = refl;
      erased = refl;
      not_erasable = refl;
      audio = refl;
      ended = refl;
      awaited = refl;
      refused = refl;
      failed = refl;
    }
