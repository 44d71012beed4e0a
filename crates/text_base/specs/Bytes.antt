-- Kinds of bytes of a line.
use Rattle.std.specs.Prelude.{ℕ, Bool, ◌==◌, ◌&&◌, ◌||◌, nat_le}

-- a space or a tab
abbrev pub is_blank : ℕ → Bool
is_blank b = (b == 32) || (b == 9)

-- = , ( ) { }
abbrev pub is_symbol : ℕ → Bool
is_symbol b = ((b == 61) || (b == 44)) || (((b == 40) || (b == 41)) || ((b == 123) || (b == 125)))

-- a tab or 32 to 126
abbrev pub is_comment_byte : ℕ → Bool
is_comment_byte b = (b == 9) || (nat_le 32 b && nat_le b 126)
