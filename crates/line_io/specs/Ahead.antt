-- What a reader of lines holds.
use Rattle.std.specs.Prelude.{ℕ, List, slice_range, if◌then◌else◌}
use Rattle.line_io.specs.declared.line_reader.LineReader.{LineReader}

-- The bytes that were read ahead and not taken yet.
abbrev pub ahead : LineReader → List ℕ
ahead lines = slice_range lines.buffer.items lines.start lines.end

-- How many bytes are read ahead at most.
abbrev pub most_ahead : LineReader → ℕ
most_ahead lines = lines.most

-- The line that the last call found, where it found one, up to `KEPT_BYTES`.
abbrev pub found_line : LineReader → List ℕ
found_line lines =
    if lines.is_kept then lines.kept.items else slice_range lines.buffer.items lines.line_start lines.line_end
