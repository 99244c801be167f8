-- The frames of an errand: a stack, the newest last.
--     no_frame, none_waits           what stands in the room of no frame; no frames
--     newest w                       the newest frame
--     top_of w                       the newest frame, if there is one
--     pushed f w, dropped w          with f on top; without the newest
use Rattle.std.specs.Prelude.{◌+◌, ◌-◌, cond, replicate, Some, None, Option, ◌==◌, slice_index_or, slice_set}
use Rattle.words.specs.Words.{blank}
use Rattle.forest.specs.declared.errand.Frame.{Frame}
use Rattle.forest.specs.declared.errand.frames.Frames.{Frames}
use Rattle.forest.specs.declared.errand.Role.TheVariants.{Owner}

abbrev pub no_frame : Frame
no_frame = record { node = 0; role = Owner; word = blank }

abbrev pub none_waits : Frames
none_waits = record { height = 0; frames = replicate 16 no_frame }

abbrev pub newest : Frames → Frame
newest w = slice_index_or w.frames (w.height - 1) no_frame

abbrev pub top_of : Frames → Option Frame
top_of w = cond (w.height == 0) None (Some (newest w))

abbrev pub pushed : Frame → Frames → Frames
pushed f w = record { height = w.height + 1; frames = slice_set w.frames w.height f }

abbrev pub dropped : Frames → Frames
dropped w = record { height = w.height - 1; frames = w.frames }
