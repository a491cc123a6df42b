-- How large a picture is.
use Rattle.std.specs.Prelude.{ℕ, ◌+◌, ◌*◌, min}
use Rattle.trace_picture.specs.declared.grid.Grid.{Grid}
use Rattle.trace_picture.specs.declared.grid.TheConstants.{LANES_LEFT, LANE_STEP, MOST_LANES, SIDE_WIDTH}

-- its width: the lanes that have places, and the room beside them
abbrev pub width_of : Grid → ℕ
width_of g = LANES_LEFT + LANE_STEP * min g.lanes MOST_LANES + SIDE_WIDTH
