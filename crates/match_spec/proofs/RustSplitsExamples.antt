-- Cases in which matcher.rs and the walk try the same splits, computed on both sides.
use Rattle.std.specs.Prelude.{◌≡◌, refl, List, [], ◌∷◌, length, drop, ℕ, zero}
use Rattle.std.proofs.Math.Decide.{ℕ_discrete, dec_lt}
use Rattle.term_spec.specs.Value.{Value, char, bracketed, contents, same?, list?, symbol, takes, takes?, decided, takes_row, takes_table, row, column}
use Rattle.match_spec.specs.Element.{Element, lit, opening, closing, one, many, Level, Env}
use Rattle.match_spec.specs.Walk.{strip, if_fits, at_head, through, if_known, rigid_fits, when}
use Rattle.match_spec.specs.RustSplits.{items_from, level_items, if_bound, bound, length_if, determinate_width, keep_if}
use Rattle.match_spec.specs.RustSplits.{rigid_prefix, or_zero, run_width, said, unless, with_some, is_some, all_below, same_term}
use Rattle.match_spec.specs.RustSplits.{terms_match, item_matches, rigid_run_matches, splits, splits_for, expression_splits}

-- The splits tried with p after an open e-variable and c ahead, by each side. To unfold one is to unfold what its line names.
by_rust : List (Element ℕ) → Env → Level → List ℕ
unfolding expression_splits level_items items_from rigid_prefix keep_if determinate_width length_if bound if_bound run_width or_zero splits_for splits when
    rigid_run_matches with_some unless item_matches said is_some all_below same_term terms_match
by_rust p env c = expression_splits c (level_items p) env

by_walk : List (Element ℕ) → Env → Level → List ℕ
unfolding splits when rigid_fits at_head if_fits through if_known strip
by_walk p env c = splits (λ k. rigid_fits p zero env (drop k c)) (length c)

-- Both try the splits l.
BothTry : List (Element ℕ) → Env → Level → List ℕ → Type 0
unfolding by_rust by_walk ℕ_discrete dec_lt same? list? contents bracketed takes takes? decided takes_row takes_table row column
BothTry p env c l = (by_rust p env c ≡ l) × (by_walk p env c ≡ l)

abbrev a : Value
a = char 97

abbrev b : Value
b = char 98

abbrev x : Value
x = char 120

-- e.1 s.2 with s.2 bound to a, on bb: s.2 is not held against its value here, so it is tried wherever there is a symbol for it.
bound_symbol : BothTry (one symbol 0 ∷ []) ((a ∷ []) ∷ []) (b ∷ b ∷ []) (0 ∷ 1 ∷ [])
unfolding BothTry
bound_symbol = (refl, refl)

-- e.1 e.2 'x' with e.2 bound to nothing, on xax: the run goes on to the x.
bound_to_nothing : BothTry (many 0 ∷ lit x ∷ []) ([] ∷ []) (x ∷ a ∷ x ∷ []) (0 ∷ 2 ∷ [])
unfolding BothTry
bound_to_nothing = (refl, refl)

-- e.1 e.2 'x' with e.2 bound to ab, on abxab: term by term, and the x after it.
bound-terms : BothTry (many 0 ∷ lit x ∷ []) ((a ∷ b ∷ []) ∷ []) (a ∷ b ∷ x ∷ a ∷ b ∷ []) (0 ∷ [])
unfolding BothTry
bound-terms = (refl, refl)

-- e.1 e.2 e.3 'x' with e.2 bound to nothing, on ab: the run is 0 wide, and every split is tried.
no_width : BothTry (many 0 ∷ many 2 ∷ lit x ∷ []) ([] ∷ []) (a ∷ b ∷ []) (0 ∷ 1 ∷ 2 ∷ [])
unfolding BothTry
no_width = (refl, refl)

-- e.1 e.2 'x' with e.2 open, on ab: there is no run, and every split is tried.
no_run : BothTry (many 1 ∷ lit x ∷ []) [] (a ∷ b ∷ []) (0 ∷ 1 ∷ 2 ∷ [])
unfolding BothTry
no_run = (refl, refl)

-- e.1 ('a') 'x' on (b)x(b)b: a bracket's contents are passed over, and what follows it counts.
bracket_passed : BothTry (opening ∷ lit a ∷ closing ∷ lit x ∷ []) [] (bracketed (b ∷ []) ∷ x ∷ bracketed (b ∷ []) ∷ b ∷ []) (0 ∷ [])
unfolding BothTry
bracket_passed = (refl, refl)

-- (e.1 'a') 'x' inside its bracket, on a: the run ends with the level.
level-ends : BothTry (lit a ∷ closing ∷ lit x ∷ []) [] (a ∷ []) (0 ∷ [])
unfolding BothTry
level-ends = (refl, refl)

-- e.1 'x' 'x' on x: the run is wider than what is ahead, and no split is tried.
too_wide : BothTry (lit x ∷ lit x ∷ []) [] (x ∷ []) []
unfolding BothTry
too_wide = (refl, refl)
