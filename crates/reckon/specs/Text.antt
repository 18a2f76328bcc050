-- Which bytes a line of words has. Assumes nothing.
use Rattle.std.specs.Prelude.{ℕ, Bool, ◌||◌, ◌&&◌, ◌==◌, nat_le}

-- a tab, or an ASCII character from the space to the tilde
abbrev pub plain : ℕ → Bool
plain byte = byte == 9 || (nat_le 32 byte && nat_le byte 126)
