-- The order of two lists by their elements, the first difference deciding, a prefix before what it begins.
use Rattle.std.specs.Prelude.{ℕ, cond, List, [], ◌∷◌, ℤ, pos, negsuc, ltb}
use Rattle.std.specs.declared.cmp.Ordering.{Ordering}
use Rattle.std.specs.declared.cmp.Ordering.TheVariants.{Less, Equal, Greater}

unfoldable pub compared : List ℕ → List ℕ → Ordering
compared [] [] = Equal
compared [] (y ∷ ys) = Less
compared (x ∷ xs) [] = Greater
compared (x ∷ xs) (y ∷ ys) = cond (ltb x y) Less (cond (ltb y x) Greater (compared xs ys))

-- -1 where a comes before b, 0 where they are equal, 1 where a comes after b. (`negsuc 0` is -1.)
abbrev pub sign : Ordering → ℤ
sign Less = negsuc 0
sign Equal = pos 0
sign Greater = pos 1
