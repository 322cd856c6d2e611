-- Where the parts of the plan begin, and how many cells check and run need: the constants of the code once more.
use Rattle.std.specs.Prelude.{ℕ, ◌+◌}

abbrev pub INHERITED : ℕ
INHERITED = 64

abbrev pub OFFSETS : ℕ
OFFSETS = INHERITED + 64

abbrev pub PLACES : ℕ
PLACES = OFFSETS + 256

abbrev pub FRAMES : ℕ
FRAMES = PLACES + 256

abbrev pub FIRSTS : ℕ
FIRSTS = FRAMES + 64

abbrev pub GLOBALS : ℕ
GLOBALS = FIRSTS + 65

abbrev pub BOUNDS : ℕ
BOUNDS = GLOBALS + 1

abbrev pub OWNERS : ℕ
OWNERS = BOUNDS + 12

abbrev pub CHECK_PLAN : ℕ
CHECK_PLAN = OWNERS

abbrev pub NODES : ℕ
NODES = OWNERS + 1024

abbrev pub LOWER : ℕ
LOWER = NODES + 2048

abbrev pub UPPER : ℕ
UPPER = LOWER + 64

abbrev pub RUN_PLAN : ℕ
RUN_PLAN = UPPER + 64
