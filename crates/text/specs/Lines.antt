-- What a line says, and what a text behind it makes of it.
use Rattle.std.specs.Prelude.{ℕ, ◌+◌, ◌-◌, ◌≤◌, ◌<◌, ◌≡◌, cond, ◌||◌, List, [], ◌∷◌, ◌++◌, ltb, eqb, length, take, replicate, Option, None, IsSome, IfSome}
use Rattle.io.specs.Digits.{last_digits, IsDigitCount}
use Rattle.text.specs.declared.Line.{Line}

-- a line has room for so many bytes; what is longer is cut off
abbrev pub room : ℕ
room = 160

abbrev pub said : Line → List ℕ
said l = take l.used l.bytes

abbrev pub behind : Line → List ℕ → List ℕ
behind l text = take room (said l ++ text)

-- a visible character of ASCII, from 32 to 126, or a question mark, which is 63
abbrev pub visible : ℕ → ℕ
visible b = cond (ltb b 32 || ltb 126 b) 63 b

-- a text up to its first line end, which is 10
abbrev pub first_line : List ℕ → List ℕ
first_line [] = []
first_line (b ∷ rest) = cond (eqb b 10) [] (visible b ∷ first_line rest)

-- how many bytes a line of so many has after one more
abbrev pub after : ℕ → ℕ
after used = cond (ltb used room) (used + 1) used

-- spaces, which are 32, up to a column, and at least one, behind so many bytes
abbrev pub spaces : ℕ → ℕ → List ℕ
spaces column used = 32 ∷ replicate (column - after used) 32

-- a line has no more bytes than there is room for
abbrev pub ValidLine : Line → Type 0
ValidLine l = length (said l) ≤ room

-- the text behind what the line says
pub record AppendResult (l : Line) (text : List ℕ) (r : Line) : Type 0 where
  pub says : said r ≡ behind l text
  pub kept : ValidLine r

-- a number in decimal digits, as few as it takes
pub record NumberResult (l : Line) (n : ℕ) (r : Line) : Type 0 where
  pub places : ℕ
  pub fewest : IsDigitCount 10 1 n places
  pub says : AppendResult l (last_digits 10 places n) r

-- a line that says nothing yet
pub record EmptyResult (r : Line) : Type 0 where
  pub says : said r ≡ []
  pub valid : ValidLine r

-- the line with its end: the first bytes of out, and how many, where it has room for any line; else none
pub record EndedResult (l : Line) (r : Option ℕ) (out : List ℕ) : Type 0 where
  pub has_room : room < length out → IsSome r
  pub says : IfSome r (λ n. take n out ≡ said l ++ (10 ∷ []))
  pub no_room : length out ≤ room → r ≡ None
