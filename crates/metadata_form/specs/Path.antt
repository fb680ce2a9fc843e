-- Where in a JSON tree a fault is, as `snapshots[2].sequence-number`.
use Rattle.std.specs.Prelude.{ℕ, List, [], ◌∷◌, ◌++◌, Bool, true, false, ◌==◌, Option, Some, None, if◌then◌else◌, decimal}

-- a dot stands before a key
abbrev pub dot : ℕ
dot = 46

-- brackets stand around an index
abbrev pub opening_bracket : ℕ
opening_bracket = 91

-- the bracket behind an index
abbrev pub closing_bracket : ℕ
closing_bracket = 93

-- in the member k of an object, and on from there: a dot, the key as it is
abbrev pub in_member : List ℕ → List ℕ → List ℕ
in_member k on = dot ∷ k ++ on

-- in the item i of an array, and on from there: the index in brackets
abbrev pub in_item : ℕ → List ℕ → List ℕ
in_item i on = opening_bracket ∷ decimal i ++ closing_bracket ∷ on

-- from the root on, a path has no dot at its head
abbrev pub from_root : List ℕ → List ℕ
from_root [] = []
from_root (c ∷ on) = if c == dot then on else c ∷ on

-- the value itself, where it isn't as it has to be
abbrev pub itself_unless : Bool → Option (List ℕ)
itself_unless true = None
itself_unless false = Some []
