-- A line of three numbers of 16 lowercase hex digits. Definitions only.
use Rattle.std.specs.Prelude.{ℕ, ◌+◌, ◌-◌, ◌*◌, Bool, cond, ◌&&◌, List, [], ◌∷◌, length, take, drop, Some, None, Option, Ok, Err, Result, ◌==◌, nat_le, slice_index}
use Rattle.replay.specs.declared.line.Line.{Line}
use Rattle.replay.specs.declared.line.Malformed.{Malformed}

abbrev pub OnSome : Option ℕ → (ℕ → Type 0) → Type 0
OnSome (Some d) P = P d
OnSome None P = Unit {0}

-- 0 to 9 and a to f
abbrev pub digit_of : ℕ → Option ℕ
digit_of b = cond (nat_le 48 b && nat_le b 57) (Some (b - 48)) (cond (nat_le 97 b && nat_le b 102) (Some (b - 87)) None)

-- the digits after those that gave v
abbrev pub hex_from : ℕ → List ℕ → Option ℕ
hex_from v [] = Some v
hex_from v (b ∷ bs) = elim (digit_of b) [ Some d ↦ hex_from (v * 16 + d) bs | None ↦ None ]

-- the 16 digits from place i
abbrev pub hex_of : ℕ → List ℕ → Option ℕ
hex_of i bs = hex_from 0 (take 16 (drop i bs))

-- three numbers, all there
abbrev pub together : Option ℕ → Option ℕ → Option ℕ → Option Line
together (Some a) (Some p) (Some f) = Some (record { argument = a; plain = p; fused = f })
together (Some a) (Some p) None = None
together (Some a) None f = None
together None p f = None

-- 51 bytes: a comma at 16 and at 33, byte 0a at 50
abbrev pub framed : List ℕ → Bool
framed bs = length bs == 51 && slice_index bs 16 == 44 && slice_index bs 33 == 44 && slice_index bs 50 == 10

abbrev pub line_of : List ℕ → Option Line
line_of bs = cond (framed bs) (together (hex_of 0 bs) (hex_of 17 bs) (hex_of 34 bs)) None

-- the line, or the refusal of these bytes
abbrev pub line_or : List ℕ → Result Line Malformed
line_or bs = elim (line_of bs) [ Some l ↦ Ok l | None ↦ Err (record {}) ]
