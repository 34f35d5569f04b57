-- An assembler's answers to a list of segments, one call after another.
use Rattle.std.specs.Prelude.{ℕ, List, [], ◌∷◌, Option, Some, None, filter_map}
use Rattle.dnp_transport.specs.Series.{Series, Answer, Fragment, More, Dropped, step}

-- the answers to these segments, from a series on
abbrev pub answers_from : Option Series → List (List ℕ) → List Answer
answers_from series [] = []
answers_from series (segment ∷ more) = (step series segment).0 ∷ answers_from (step series segment).1 more

-- the series that is left after these segments
abbrev pub series_after : Option Series → List (List ℕ) → Option Series
series_after series [] = series
series_after series (segment ∷ more) = series_after (step series segment).1 more

-- the fragment that an answer gives
abbrev pub fragment_in : Answer → Option (List ℕ)
fragment_in (Fragment octets) = Some octets
fragment_in More = None
fragment_in (Dropped cause) = None

-- the fragments that answers give
abbrev pub fragments_in : List Answer → List (List ℕ)
fragments_in answers = filter_map fragment_in answers
