-- Worked examples, by computation: the rules of nodes and fields at their limits, and each call that builds or reads fields.
use Rattle.std.specs.Prelude.{◌≡◌, refl, List, [], ◌∷◌, ◌++◌, map, Bool, true, false, ℕ, suc, ◌+◌}
use Rattle.std.proofs.Math.Decide.{ℕ_discrete, dec_le, dec_lt}
use Rattle.term_spec.specs.Text.{lower, stripped}
use Rattle.term_spec.specs.Table.{table}
use Rattle.term_spec.specs.Term.{Term, Run, no_run}
use Rattle.term_spec.specs.Value.{Value, char, ident, num, from_list, bracketed, canon, canons, heads?, list?, same?, sames?, is_yes}
use Rattle.view_spec.specs.Node.{Node, Field, empty_field, nil_node, meaning_k, meaning_of, holds}
use Rattle.view_spec.specs.Node.{nil_rule, cons_rule, concat_rule, node_rule_k, node_rule, each_node, nodes_rule, field_rule}
use Rattle.view_spec.specs.Build.{Built, if_dec, fuse_head, fuse_onto, fuse, chain_head, chain, total, spec_from_runs}
use Rattle.view_spec.specs.Build.{unclamp_k, unclamp_of, unclamp, second_k, plan_k, plan_of, plan, grow, join_by, join}
use Rattle.view_spec.specs.Build.{drop_k, drop_of, drop_plan, drop_makes, drop_node, shrink, take_field, rest, range}
use Rattle.view_spec.specs.Read.{Place, stored, scattered, place, copy_at, copy, settled_at, settled_run, equal_terms, starts_with}
use Rattle.view_spec.specs.RustJoin.{rust_round, rust_rounds, rust_unclamp, rust_concat, rust_outer, rust_double, rust_single, rust_turn, rust_join}
use Rattle.view_spec.specs.RustDrop.{rust_under, rust_match, rust_drop}

-- Kind, a, b, c, height, reach.
abbrev node : ℕ → ℕ → ℕ → ℕ → ℕ → ℕ → Node
node k a b c h r = record { kind = k; a = a; b = b; c = c; height = h; reach = r }

-- A Cons: run start, run length, tail, reach.
abbrev cons : ℕ → ℕ → ℕ → ℕ → Node
cons a b c r = node 1 a b c 1 r

-- A Concat: left, left length, right, height, reach.
abbrev concat : ℕ → ℕ → ℕ → ℕ → ℕ → Node
concat a b c h r = node 2 a b c h r

-- A field: node, length. A run: start, length.
abbrev field : ℕ → ℕ → Field
field i n = record { node = i; len = n }

abbrev run : ℕ → ℕ → Run
run s n = record { start = s; len = n }

-- ---- rules ----

-- Over 6 terms: a run of 2, and a run of 4 before it.
abbrev three : List Node
three = nil_node ∷ cons 0 2 0 2 ∷ cons 2 4 1 6 ∷ []

abbrev good : List (List Node)
good =
    (nil_node ∷ [])
    ∷ three
    -- the left length at its least and at the left's reach
    ∷ (three ++ (concat 2 1 1 2 3 ∷ []))
    ∷ (three ++ (concat 2 6 1 2 8 ∷ []))
    -- the taller child is the left, and the right
    ∷ (three ++ (concat 1 2 1 2 4 ∷ concat 3 4 2 3 10 ∷ []))
    ∷ (three ++ (concat 1 2 1 2 4 ∷ concat 2 6 3 3 10 ∷ []))
    ∷ []

abbrev bad : List (List Node)
bad =
    -- no node 0; another kind than Nil as node 0; Nil as node 3; a Nil with a word that is not 0; a kind that no rule has
    []
    ∷ (cons 0 2 0 2 ∷ [])
    ∷ (three ++ (nil_node ∷ []))
    ∷ (node 0 1 0 0 0 0 ∷ [])
    ∷ (node 0 0 1 0 0 0 ∷ [])
    ∷ (node 0 0 0 1 0 0 ∷ [])
    ∷ (node 0 0 0 0 1 0 ∷ [])
    ∷ (node 0 0 0 0 0 1 ∷ [])
    ∷ (three ++ (node 3 0 0 0 0 0 ∷ []))
    -- Cons: length 0; a run past the used terms; its own number as tail; a Concat as tail; height 2; reach one off
    ∷ (three ++ (cons 0 0 1 2 ∷ []))
    ∷ (three ++ (cons 5 2 0 2 ∷ []))
    ∷ (three ++ (cons 0 1 3 1 ∷ []))
    ∷ (three ++ (concat 1 2 1 2 4 ∷ cons 0 1 3 5 ∷ []))
    ∷ (three ++ (node 1 0 1 1 2 3 ∷ []))
    ∷ (three ++ (cons 0 1 1 2 ∷ []))
    ∷ (three ++ (cons 0 1 1 4 ∷ []))
    -- Concat: right Nil; left Nil; left length 0; left length over the left's reach; its own number as left, and as right
    ∷ (three ++ (concat 1 2 0 2 2 ∷ []))
    ∷ (three ++ (concat 0 1 1 2 3 ∷ []))
    ∷ (three ++ (concat 1 0 2 2 6 ∷ []))
    ∷ (three ++ (concat 1 3 2 2 9 ∷ []))
    ∷ (three ++ (concat 3 1 1 2 3 ∷ []))
    ∷ (three ++ (concat 1 2 3 2 2 ∷ []))
    -- Concat: height one off; reach one off
    ∷ (three ++ (concat 1 2 2 1 8 ∷ []))
    ∷ (three ++ (concat 1 2 2 3 8 ∷ []))
    ∷ (three ++ (concat 1 2 2 2 7 ∷ []))
    ∷ (three ++ (concat 1 2 2 2 9 ∷ []))
    ∷ []

-- Over 65,536 terms: a run of them all. A Cons and a Concat over it reach 65,536 too, and no further.
abbrev full : List Node
full = nil_node ∷ cons 0 65536 0 65536 ∷ []

abbrev capped : List (List Node)
capped = full ∷ (full ++ (cons 0 1 1 65536 ∷ [])) ∷ (full ++ (concat 1 65536 1 2 65536 ∷ [])) ∷ []

abbrev uncapped : List (List Node)
uncapped = (full ++ (cons 0 1 1 65537 ∷ [])) ∷ (full ++ (concat 1 65536 1 2 131072 ∷ [])) ∷ []

node_rules : (map (nodes_rule 6) good ≡ map (λ ns. true) good) × (map (nodes_rule 6) bad ≡ map (λ ns. false) bad)
    × (map (nodes_rule 65536) capped ≡ map (λ ns. true) capped) × (map (nodes_rule 65536) uncapped ≡ map (λ ns. false) uncapped)
unfolding nodes_rule each_node node_rule node_rule_k nil_rule cons_rule concat_rule
node_rules = (refl, refl, refl, refl)

-- A field at its node's reach and past it; the empty field; a node that is not there.
field_rules : map (field_rule three) (field 1 2 ∷ field 2 6 ∷ empty_field ∷ field 1 3 ∷ field 2 7 ∷ field 0 1 ∷ field 3 0 ∷ [])
    ≡ true ∷ true ∷ true ∷ false ∷ false ∷ false ∷ false ∷ []
unfolding field_rule
field_rules = refl

-- ---- the rope of the examples below: over the terms a to f, what each node gives ----

abbrev rope : List Node
rope =
    nil_node
    ∷ cons 0 1 0 1  -- 1: a
    ∷ cons 1 1 0 1  -- 2: b
    ∷ cons 2 1 0 1  -- 3: c
    ∷ concat 1 1 2 2 2  -- 4: a b
    ∷ concat 4 2 3 3 3  -- 5: a b, c
    ∷ concat 3 1 4 3 3  -- 6: c, a b
    ∷ cons 3 3 0 3  -- 7: d e f
    ∷ concat 5 3 6 4 6  -- 8: a b c, c a b
    ∷ concat 7 2 5 4 5  -- 9: d e, the first two of node 7; a b c
    ∷ cons 0 2 7 5  -- 10: a b, d e f
    ∷ []

abbrev letters : List ℕ
letters = 97 ∷ 98 ∷ 99 ∷ 100 ∷ 101 ∷ 102 ∷ []

-- The fields of the whole nodes; then two clamped ones.
rope-holds : (nodes_rule 6 rope ≡ true)
    × (map (holds letters rope) (empty_field ∷ field 3 1 ∷ field 5 3 ∷ field 6 3 ∷ field 7 3 ∷ field 8 6 ∷ field 9 5 ∷ field 10 5 ∷ field 9 3 ∷ field 7 2 ∷ [])
    ≡ [] ∷ (99 ∷ []) ∷ (97 ∷ 98 ∷ 99 ∷ []) ∷ (99 ∷ 97 ∷ 98 ∷ []) ∷ (100 ∷ 101 ∷ 102 ∷ []) ∷ (97 ∷ 98 ∷ 99 ∷ 99 ∷ 97 ∷ 98 ∷ [])
    ∷ (100 ∷ 101 ∷ 97 ∷ 98 ∷ 99 ∷ []) ∷ (97 ∷ 98 ∷ 100 ∷ 101 ∷ 102 ∷ []) ∷ (100 ∷ 101 ∷ 97 ∷ []) ∷ (100 ∷ 101 ∷ []) ∷ [])
unfolding nodes_rule each_node node_rule node_rule_k nil_rule cons_rule concat_rule table meaning_of meaning_k
rope-holds = (refl, refl)

-- What a call leaves on the rope: the nodes made, and the field answered.
abbrev leaves : List Node → Field → Built
leaves made f = record { nodes = rope ++ made; field = f }

-- ---- from_runs ----

from_runs_lem : map (λ rs. spec_from_runs rs rope)
    ([]
    ∷ (run 4 0 ∷ run 6 0 ∷ [])
    ∷ (run 0 1 ∷ run 1 2 ∷ run 3 1 ∷ [])
    ∷ (run 2 0 ∷ run 0 2 ∷ run 5 0 ∷ run 2 2 ∷ run 1 0 ∷ [])
    ∷ (run 0 2 ∷ run 1 2 ∷ [])
    ∷ (run 2 2 ∷ run 0 2 ∷ [])
    ∷ (run 4 2 ∷ run 2 1 ∷ run 0 1 ∷ [])
    ∷ [])
    -- nothing, and empty runs alone: the empty field
    ≡ leaves [] empty_field
    ∷ leaves [] empty_field
    -- each ends where the next starts: one run; also with empty runs between
    ∷ leaves (cons 0 4 0 4 ∷ []) (field 11 4)
    ∷ leaves (cons 0 4 0 4 ∷ []) (field 11 4)
    -- overlapping runs, and the second before the first: not fused
    ∷ leaves (cons 1 2 0 2 ∷ cons 0 2 11 4 ∷ []) (field 12 4)
    ∷ leaves (cons 0 2 0 2 ∷ cons 2 2 11 4 ∷ []) (field 12 4)
    -- the last run's Cons is the first made
    ∷ leaves (cons 0 1 0 1 ∷ cons 2 1 11 2 ∷ cons 4 2 12 4 ∷ []) (field 13 4)
    ∷ []
unfolding spec_from_runs fuse fuse_onto fuse_head if_dec chain chain_head total ℕ_discrete
from_runs_lem = refl

-- ---- join ----

-- A join on the rope: its operands, the nodes made, and the node answered; the length is the sum of theirs.
record Joins : Type 0 where
  left : Field
  right : Field
  made : List Node
  answer : ℕ

abbrev joins : Field → Field → List Node → ℕ → Joins
joins f g new i = record { left = f; right = g; made = new; answer = i }

abbrev joined : List Joins
joined =
    -- left as tall as the right and one taller: a Concat of the two
    joins (field 4 2) (field 4 2) (concat 4 2 4 3 4 ∷ []) 11
    ∷ joins (field 4 2) (field 7 3) (concat 4 2 7 3 5 ∷ []) 11
    -- the right taller: a Concat of the two
    ∷ joins (field 7 3) (field 8 6) (concat 7 3 8 5 9 ∷ []) 11
    -- two taller, the inner left the taller child: c joins the right, then a b before that
    ∷ joins (field 5 3) (field 7 3) (concat 3 1 7 2 4 ∷ concat 4 2 11 3 6 ∷ []) 12
    -- two taller, the inner right the taller child: a head of c and a, then b and the right, then both
    ∷ joins (field 6 3) (field 7 3) (concat 3 1 1 2 2 ∷ concat 2 1 7 2 4 ∷ concat 11 2 12 3 6 ∷ []) 13
    -- three taller, and both of these turns: first the inner ones
    ∷ joins (field 8 6) (field 7 3) (concat 3 1 1 2 2 ∷ concat 2 1 7 2 4 ∷ concat 11 2 12 3 6 ∷ concat 5 3 13 4 9 ∷ []) 14
    -- the inner right is the taller child, but the one term wanted of it is a run's: no turn
    ∷ joins (field 6 2) (field 7 3) (concat 6 2 7 4 5 ∷ []) 11
    -- a clamped left: the first two of node 5 are node 4's, its first is node 1's
    ∷ joins (field 5 2) (field 7 3) (concat 4 2 7 3 5 ∷ []) 11
    ∷ joins (field 5 1) (field 7 3) (concat 1 1 7 2 4 ∷ []) 11
    -- a clamped left that has no lower node, before a right that is clamped too
    ∷ joins (field 7 2) (field 7 1) (concat 7 2 7 2 5 ∷ []) 11
    -- a clamped right, lowered twice, once and not at all
    ∷ joins (field 7 3) (field 5 1) (concat 7 3 1 2 4 ∷ []) 11
    ∷ joins (field 7 3) (field 5 2) (concat 7 3 4 3 5 ∷ []) 11
    ∷ joins (field 7 3) (field 6 2) (concat 7 3 6 4 6 ∷ []) 11
    -- a right clamped to a low node makes the left two taller
    ∷ joins (field 5 3) (field 9 2) (concat 3 1 7 2 4 ∷ concat 4 2 11 3 6 ∷ []) 12
    -- an empty operand: the other as it is
    ∷ joins (field 5 0) (field 6 2) [] 6
    ∷ joins (field 5 2) (field 6 0) [] 5
    ∷ joins (field 5 0) (field 6 0) [] 6
    ∷ []

joins_by_plan : map (λ j. join j.left j.right rope) joined
    ≡ map (λ j. leaves j.made (field j.answer (j.left.len + j.right.len))) joined
unfolding join join_by grow plan plan_of plan_k second_k unclamp unclamp_of unclamp_k if_dec table ℕ_discrete dec_le dec_lt
joins_by_plan = refl

joins_in_rust : map (λ j. rust_join (suc j.left.node) rope j.left.node j.left.len j.right.node j.right.len) joined
    ≡ map (λ j. (rope ++ j.made, j.answer)) joined
unfolding rust_join rust_turn rust_single rust_double rust_outer rust_concat rust_unclamp rust_rounds rust_round if_dec ℕ_discrete dec_le dec_lt
joins_in_rust = refl

-- ---- rest, range, take ----

-- A rest on the rope: its field, its count, the nodes made, and the field answered.
record Rests : Type 0 where
  of : Field
  count : ℕ
  made : List Node
  answer : Field

abbrev rests : Field → ℕ → List Node → Field → Rests
rests f k new g = record { of = f; count = k; made = new; answer = g }

abbrev rested : List Rests
rested =
    -- by 0, also of a clamped field
    rests (field 9 5) 0 [] (field 9 5)
    ∷ rests (field 9 3) 0 [] (field 9 3)
    -- inside one run, and of a clamped field
    ∷ rests (field 7 3) 1 (cons 4 2 0 2 ∷ []) (field 11 2)
    ∷ rests (field 7 2) 1 (cons 4 2 0 2 ∷ []) (field 11 1)
    -- a chain of runs: inside the first, by the first, inside the second
    ∷ rests (field 10 5) 1 (cons 1 1 7 4 ∷ []) (field 11 4)
    ∷ rests (field 10 5) 2 [] (field 7 3)
    ∷ rests (field 10 5) 3 (cons 4 2 0 2 ∷ []) (field 11 2)
    -- inside a clamped left: the shortened Cons, then a Concat that keeps the clamp, 2 less 1
    ∷ rests (field 9 5) 1 (cons 4 2 0 2 ∷ concat 11 1 5 4 4 ∷ []) (field 12 4)
    -- inside a left, by its own left: no Cons is shortened, one Concat is made
    ∷ rests (field 5 3) 1 (concat 2 1 3 2 2 ∷ []) (field 11 2)
    -- by a whole left; inside a right
    ∷ rests (field 9 5) 2 [] (field 5 3)
    ∷ rests (field 9 5) 3 (concat 2 1 3 2 2 ∷ []) (field 11 2)
    -- by everything; of a clamped field, whose node has more
    ∷ rests (field 9 5) 5 [] empty_field
    ∷ rests (field 5 2) 2 [] (field 3 0)
    ∷ []

rests_by_plan : map (λ r. rest r.of r.count rope) rested ≡ map (λ r. leaves r.made r.answer) rested
unfolding rest shrink drop_plan drop_of drop_k drop_node drop_makes if_dec table dec_lt
rests_by_plan = refl

rests_in_rust : map (λ r. rust_drop (suc r.of.node) rope r.of.node r.count 0) rested
    ≡ map (λ r. (rope ++ r.made, r.answer.node, r.count)) rested
unfolding rust_drop rust_match rust_under if_dec ℕ_discrete dec_lt
rests_in_rust = refl

-- The second and third of five; nothing; take keeps the node.
ranges : (map (λ n. range (field 9 5) 1 n rope) (2 ∷ 0 ∷ [])
    ≡ leaves (cons 4 2 0 2 ∷ concat 11 1 5 4 4 ∷ []) (field 12 2) ∷ leaves (cons 4 2 0 2 ∷ concat 11 1 5 4 4 ∷ []) (field 12 0) ∷ [])
    × (map (take_field (field 9 5)) (5 ∷ 2 ∷ 0 ∷ []) ≡ field 9 5 ∷ field 9 2 ∷ field 9 0 ∷ [])
unfolding range take_field rest shrink drop_plan drop_of drop_k drop_node drop_makes if_dec table dec_lt
ranges = (refl, refl)

-- ---- flatten and settling ----

abbrev term : ℕ → Term
term c = record { kind = 0; a = c; b = 0; c = 0; d = 0 }

-- The fields, and where each stands: one run; its first two terms; length 0, of a run and of a Concat; a chain, though its first run
-- has the terms; a Concat, and a clamped one.
abbrev placed : List (Field × Place)
placed = (field 7 3, stored (run 3 3)) ∷ (field 7 2, stored (run 3 2)) ∷ (field 7 0, stored no_run) ∷ (field 5 0, stored no_run) ∷ (empty_field, stored no_run)
    ∷ (field 10 2, scattered) ∷ (field 5 3, scattered) ∷ (field 9 3, scattered) ∷ []

-- Settling copies what is scattered to after the 6 terms, as long as the field: d, e and a of node 9.
places : (map (λ p. place rope p.0) placed ≡ map (λ p. p.1) placed)
    × (map (settled_run (map term letters) rope) (field 7 2 ∷ field 7 0 ∷ field 5 0 ∷ field 10 2 ∷ field 9 3 ∷ [])
    ≡ run 3 2 ∷ no_run ∷ no_run ∷ run 6 2 ∷ run 6 3 ∷ [])
    × (map (copy (map term letters) rope) (field 7 2 ∷ field 5 0 ∷ field 10 2 ∷ field 9 3 ∷ [])
    ≡ [] ∷ [] ∷ (term 97 ∷ term 98 ∷ []) ∷ (term 100 ∷ term 101 ∷ term 97 ∷ []) ∷ [])
unfolding place settled_at copy_at table meaning_of meaning_k
places = (refl, refl, refl)

-- ---- equality and starts_with ----

-- Two lists of terms, and the answer.
abbrev Compares : Type 0
Compares = List Value × List Value × Bool

-- The identifiers X and x are equal, also in brackets; the numbers 7 and 07 too, 7 and 70 not; a char is no identifier; lengths count.
abbrev equals : List Compares
equals =
    ([], [], true)
    ∷ (ident (88 ∷ []) ∷ char 97 ∷ [], ident (120 ∷ []) ∷ char 97 ∷ [], true)
    ∷ (bracketed (ident (88 ∷ []) ∷ []) ∷ [], bracketed (ident (120 ∷ []) ∷ []) ∷ [], true)
    ∷ (num (55 ∷ []) ∷ [], num (48 ∷ 55 ∷ []) ∷ [], true)
    ∷ (num (55 ∷ []) ∷ [], num (55 ∷ 48 ∷ []) ∷ [], false)
    ∷ (char 88 ∷ [], ident (88 ∷ []) ∷ [], false)
    ∷ (char 97 ∷ char 98 ∷ [], char 97 ∷ [], false)
    ∷ []

-- All start with nothing; with themselves; not with what stands further on, nor with more than they have.
abbrev starts : List Compares
starts =
    (char 97 ∷ char 98 ∷ [], [], true)
    ∷ (ident (88 ∷ []) ∷ char 98 ∷ [], ident (120 ∷ []) ∷ [], true)
    ∷ (char 97 ∷ char 98 ∷ [], char 97 ∷ char 98 ∷ [], true)
    ∷ (char 97 ∷ char 98 ∷ [], char 98 ∷ [], false)
    ∷ (char 97 ∷ [], char 97 ∷ char 98 ∷ [], false)
    ∷ []

compared : (map (λ p. equal_terms p.0 p.1) equals ≡ map (λ p. p.2) equals) × (map (λ p. starts_with p.0 p.1) starts ≡ map (λ p. p.2) starts)
unfolding equal_terms starts_with is_yes sames? same? list? heads? bracketed from_list canon canons lower stripped ℕ_discrete
compared = (refl, refl)
