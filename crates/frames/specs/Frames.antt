-- What a frame holds.
use Rattle.std.specs.Prelude.{ℕ, List, take}
use Rattle.frames.specs.declared.frame.Frame.{Frame}

abbrev pub frame_bytes : Frame → List ℕ
frame_bytes frame = take frame.len frame.bytes
