-- Names by text and entries by number: a pattern numbered by first occurrence says the same as the pattern by name.
use Rattle.std.specs.Prelude.{◌≡◌, refl, List, [], ◌∷◌, ◌++◌, ◌↔◌, length, suc, zero, ◌≤◌, ◌<◌, max}
use Rattle.std.proofs.Common.{ap, ap₂, sym, ◌∙◌, append-nil, length-append, arith}
use Rattle.std.proofs.Math.Seq.{append_snoc}
use Rattle.std.proofs.Math.Decide.{dec_lt}
use Rattle.match_spec.specs.Element.{Element, lit, opening, closing, call, one, many, Env, on_top, wrap, push, put, Ones, entry}
use Rattle.match_spec.specs.Pattern.{Name, name?, find_here, find, add_if, add, names_after, number}
use Rattle.match_spec.specs.Consistent.{value_of_name}
use Rattle.match_spec.proofs.SoundLaws.{after, Numbered}

pub find_le : (x : Name) (t : List Name) → find x t ≤ length t
unfolding find find_here
find_le x [] = omega arith
find_le x (y ∷ t) = go (name? x y) (find_le x t)
  where
    go : (d : Dec (x ≡ y)) → find x t ≤ length t → find_here d (find x t) ≤ suc (length t)
    go (yes h) i = omega arith
    go (no h) i = omega arith

pub add-length : (x : Name) (t : List Name) → length (add x t) ≡ max (length t) (suc (find x t))
unfolding add add_if
add-length x t = go (dec_lt (find x t) (length t)) (find_le x t)
  where
    go : (d : Dec (find x t < length t)) → find x t ≤ length t → length (add_if d x t) ≡ max (length t) (suc (find x t))
    go (yes h) i = omega arith
    go (no h) i = simp length-append (omega arith)

pub numbered : (p : List (Element Name)) (t : List Name) → Numbered (number p t) (length t)
unfolding number Numbered
numbered [] t = tt
numbered (lit v ∷ p) t = numbered p t
numbered (opening ∷ p) t = numbered p t
numbered (closing ∷ p) t = numbered p t
numbered (call ∷ p) t = numbered p t
numbered (one k x ∷ p) t = (find_le x t, rw (← add-length x t) (numbered p (add x t)))
numbered (many x ∷ p) t = (find_le x t, rw (← add-length x t) (numbered p (add x t)))

pub find-kept : (x : Name) (t u : List Name) → find x t < length t → find x (t ++ u) ≡ find x t
unfolding find find_here
find-kept x [] u h = absurd (omega arith)
find-kept x (y ∷ t) u h = go (name? x y) (find-kept x t u) h
  where
    go : (d : Dec (x ≡ y)) → (find x t < length t → find x (t ++ u) ≡ find x t) → find_here d (find x t) < suc (length t)
        → find_here d (find x (t ++ u)) ≡ find_here d (find x t)
    go (yes q) ih k = refl
    go (no q) ih k = ap suc (ih (omega arith))

pub find-new : (x : Name) (t : List Name) → find x t ≡ length t → find x (t ++ (x ∷ [])) ≡ length t
unfolding find find_here
find-new x [] e = go (name? x x)
  where
    go : (d : Dec (x ≡ x)) → find_here d zero ≡ zero
    go (yes q) = refl
    go (no q) = absurd (q refl)
find-new x (y ∷ t) e = go (name? x y) (find-new x t) e
  where
    go : (d : Dec (x ≡ y)) → (find x t ≡ length t → find x (t ++ (x ∷ [])) ≡ length t) → find_here d (find x t) ≡ suc (length t)
        → find_here d (find x (t ++ (x ∷ []))) ≡ suc (length t)
    go (yes q) ih k = absurd (omega arith)
    go (no q) ih k = ap suc (ih (omega arith))

pub find_added : (x : Name) (t : List Name) → find x (add x t) ≡ find x t
unfolding add add_if
find_added x t = go (dec_lt (find x t) (length t)) (find_le x t)
  where
    go : (d : Dec (find x t < length t)) → find x t ≤ length t → find x (add_if d x t) ≡ find x t
    go (yes h) i = refl
    go (no h) i = let z : find x t ≡ length t = omega arith in find-new x t z ∙ sym z

grow-more : (p : List (Element Name)) (x : Name) (t : List Name) → (u : List Name) × (names_after p (add x t) ≡ add x t ++ u)
    → (u : List Name) × (names_after p (add x t) ≡ t ++ u)
unfolding add add_if
grow-more p x t (u, e) = go (dec_lt (find x t) (length t)) e
  where
    go : (d : Dec (find x t < length t)) → names_after p (add x t) ≡ add_if d x t ++ u → (w : List Name) × (names_after p (add x t) ≡ t ++ w)
    go (yes h) q = (u, q)
    go (no h) q = (x ∷ u, q ∙ append_snoc t x u)

pub names_grow : (p : List (Element Name)) (t : List Name) → (u : List Name) × (names_after p t ≡ t ++ u)
unfolding names_after
names_grow [] t = ([], sym (append-nil t))
names_grow (lit v ∷ p) t = names_grow p t
names_grow (opening ∷ p) t = names_grow p t
names_grow (closing ∷ p) t = names_grow p t
names_grow (call ∷ p) t = names_grow p t
names_grow (one k x ∷ p) t = grow-more p x t (names_grow p (add x t))
names_grow (many x ∷ p) t = grow-more p x t (names_grow p (add x t))

pub find_names : (p : List (Element Name)) (x : Name) (t : List Name) → find x (names_after p (add x t)) ≡ find x t
find_names p x t = let (u, e) = names_grow p (add x t) in rw e (find-kept x (add x t) u (rw (find_added x t, add-length x t) (omega arith)) ∙ find_added x t)

-- ---- a pattern by name and by number ----

pub put_names : (p : List (Element Name)) (t : List Name) (B : Env) → put p (value_of_name (names_after p t) B) ≡ put (number p t) (entry B)
unfolding put number names_after
put_names [] t B = refl
put_names (lit v ∷ p) t B = ap (on_top (v ∷◌)) (put_names p t B)
put_names (opening ∷ p) t B = ap wrap (put_names p t B)
put_names (closing ∷ p) t B = ap push (put_names p t B)
put_names (call ∷ p) t B = refl
put_names (one k x ∷ p) t B = ap₂ (λ n l. on_top (entry B n ++◌) l) (find_names p x t) (put_names p (add x t) B)
put_names (many x ∷ p) t B = ap₂ (λ n l. on_top (entry B n ++◌) l) (find_names p x t) (put_names p (add x t) B)

pub names_length : (p : List (Element Name)) (t : List Name) → length (names_after p t) ≡ after (number p t) (length t)
unfolding names_after number after
names_length [] t = refl
names_length (lit v ∷ p) t = names_length p t
names_length (opening ∷ p) t = names_length p t
names_length (closing ∷ p) t = names_length p t
names_length (call ∷ p) t = names_length p t
names_length (one k x ∷ p) t = names_length p (add x t) ∙ ap (after (number p (add x t))) (add-length x t)
names_length (many x ∷ p) t = names_length p (add x t) ∙ ap (after (number p (add x t))) (add-length x t)

pub ones_names : (p : List (Element Name)) (t : List Name) (B : Env) → Ones p (value_of_name (names_after p t) B) ↔ Ones (number p t) (entry B)
unfolding Ones number names_after
ones_names [] t B = (λ x. x, λ x. x)
ones_names (lit v ∷ p) t B = ones_names p t B
ones_names (opening ∷ p) t B = ones_names p t B
ones_names (closing ∷ p) t B = ones_names p t B
ones_names (call ∷ p) t B = ones_names p t B
ones_names (one k x ∷ p) t B =
    let i = ones_names p (add x t) B in
    let e = ap (entry B) (find_names p x t) in
    (λ o. ((o.0.0, sym e ∙ o.0.1, o.0.2), i.0 o.1), λ o. ((o.0.0, e ∙ o.0.1, o.0.2), i.1 o.1))
ones_names (many x ∷ p) t B = ones_names p (add x t) B
