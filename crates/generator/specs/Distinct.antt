-- Membership, and lists with each value once.
--   Mem a l       a is an element of l
--   Once l        no value stands twice in l
--   distinct l    the values of l, each once
use Rattle.std.specs.Prelude.{◌≡◌, refl, ◌⊎◌, Bool, true, false, ◌||◌, List, [], ◌∷◌, ◌++◌, map, ℕ, T, eqb}
use Rattle.std.proofs.Common.{ap, inl, inr, eqb→eq}
use Rattle.std.proofs.Math.Dec.{eqb_refl}
use Rattle.polynomial.specs.Sums.{All}

abbrev pub Mem : {A : Type 0} → A → List A → Type 0
Mem a [] = ⊥
Mem a (x ∷ l) = (a ≡ x) ⊎ Mem a l

module _ {A : Type 0} where
  -- `All`, of Vander, and membership
  pub all_of : (P : A → Type 0) (l : List A) → ((a : A) → Mem a l → P a) → All P l
  all_of P [] h = tt
  all_of P (x ∷ l) h = (h x (inl refl), all_of P l (λ a m. h a (inr m)))

  pub all_map : {B : Type 0} (P : B → Type 0) (f : A → B) (l : List A) → All (λ a. P (f a)) l → All P (map f l)
  all_map P f [] h = tt
  all_map P f (x ∷ l) h = (h.0, all_map P f l h.1)

  pub map-all : {B : Type 0} (P : B → Type 0) (f : A → B) (l : List A) → All P (map f l) → All (λ a. P (f a)) l
  map-all P f [] h = tt
  map-all P f (x ∷ l) h = (h.0, map-all P f l h.1)

  pub mem-map : {B : Type 0} (f : A → B) (a : A) (l : List A) → Mem a l → Mem (f a) (map f l)
  mem-map {B = B} f a [] x' = elim x' [ ]
  mem-map f a (x ∷ l) (inl e) = inl (ap f e)
  mem-map f a (x ∷ l) (inr m) = inr (mem-map f a l m)

  -- what is true of f at each member is true at each member of the image
  pub map-mem : {B : Type 0} (P : B → Type 0) (f : A → B) (l : List A) → ((a : A) → Mem a l → P (f a)) → (b : B) → Mem b (map f l) → P b
  map-mem {B = B} P f [] h b x'' = elim x'' [ ]
  map-mem P f (x ∷ l) h b (inl e) = rw e (h x (inl refl))
  map-mem P f (x ∷ l) h b (inr m) = map-mem P f l (λ a k. h a (inr k)) b m

  pub mem-left : (a : A) (l k : List A) → Mem a l → Mem a (l ++ k)
  mem-left a [] k x' = elim x' [ ]
  mem-left a (x ∷ l) k (inl e) = inl e
  mem-left a (x ∷ l) k (inr m) = inr (mem-left a l k m)

  pub mem-right : (a : A) (l k : List A) → Mem a k → Mem a (l ++ k)
  mem-right a [] k m = m
  mem-right a (x ∷ l) k m = inr (mem-right a l k m)

  -- what is true of the members of both is true of the members of the join
  pub mem-join : (P : A → Type 0) (l k : List A) → ((a : A) → Mem a l → P a) → ((a : A) → Mem a k → P a) → (a : A) → Mem a (l ++ k) → P a
  mem-join P [] k f g a m = g a m
  mem-join P (x ∷ l) k f g a (inl e) = f a (inl e)
  mem-join P (x ∷ l) k f g a (inr m) = mem-join P l k (λ b h. f b (inr h)) g a m

-- each value once
abbrev pub Once : List ℕ → Type 0
Once [] = Unit {0}
Once (x ∷ l) = (Mem x l → ⊥) × Once l

unfoldable pub member : ℕ → List ℕ → Bool
member a [] = false
member a (x ∷ l) = eqb a x || member a l

pub member-mem : (a : ℕ) (l : List ℕ) → T (member a l) → Mem a l
unfolding member
member-mem a [] t = absurd t
member-mem a (x ∷ l) t = go (eqb a x) (eqb→eq a x) (member-mem a l) t
  where
    go : (b : Bool) → (T b → a ≡ x) → (T (member a l) → Mem a l) → T (b || member a l) → Mem a (x ∷ l)
    go true e ih t = inl (e tt)
    go false e ih t = inr (ih t)

pub mem-member : (a : ℕ) (l : List ℕ) → Mem a l → T (member a l)
unfolding member
mem-member a [] x' = elim x' [ ]
mem-member a (x ∷ l) (inl e) = go (eqb a x) (rw e (eqb_refl x))
  where
    go : (b : Bool) → T b → T (b || member a l)
    go true t = tt
    go false t = absurd t
mem-member a (x ∷ l) (inr m) = go (eqb a x) (mem-member a l m)
  where
    go : (b : Bool) → T (member a l) → T (b || member a l)
    go true t = tt
    go false t = t

-- x before l, if it is not there
abbrev put : Bool → ℕ → List ℕ → List ℕ
put true x l = l
put false x l = x ∷ l

unfoldable pub add : ℕ → List ℕ → List ℕ
unfolding member
add x l = put (member x l) x l

pub add-cases : (P : List ℕ → Type 0) (x : ℕ) (l : List ℕ) → (Mem x l → P l) → ((Mem x l → ⊥) → P (x ∷ l)) → P (add x l)
unfolding add
add-cases P x l y n = go (member x l) (member-mem x l) (mem-member x l)
  where
    go : (b : Bool) → (T b → Mem x l) → (Mem x l → T b) → P (put b x l)
    go true f g = y (f tt)
    go false f g = n g

-- a list's values, each once
unfoldable pub distinct : List ℕ → List ℕ
unfolding add
distinct [] = []
distinct (x ∷ l) = add x (distinct l)

pub distinct_nil : distinct [] ≡ []
unfolding distinct
distinct_nil = refl

pub distinct_cons : (x : ℕ) (l : List ℕ) → distinct (x ∷ l) ≡ add x (distinct l)
unfolding distinct
distinct_cons x l = refl

pub distinct-once : (l : List ℕ) → Once (distinct l)
distinct-once [] = rw distinct_nil tt
distinct-once (x ∷ l) = go (distinct-once l)
  where
    go : Once (distinct l) → Once (distinct (x ∷ l))
    go o = rw (distinct_cons x l) (add-cases Once x (distinct l) (λ m. o) (λ n. (n, o)))

pub mem-distinct : (a : ℕ) (l : List ℕ) → Mem a l → Mem a (distinct l)
mem-distinct a [] x' = elim x' [ ]
mem-distinct a (x ∷ l) (inl e) = rw (distinct_cons x l) (add-cases (λ k. Mem a k) x (distinct l) (λ m. rw e m) (λ n. inl e))
mem-distinct a (x ∷ l) (inr m) = go (mem-distinct a l m)
  where
    go : Mem a (distinct l) → Mem a (distinct (x ∷ l))
    go h = rw (distinct_cons x l) (add-cases (λ k. Mem a k) x (distinct l) (λ m. h) (λ n. inr h))

pub distinct-mem : (l : List ℕ) (a : ℕ) → Mem a (distinct l) → Mem a l
distinct-mem [] a m = rw distinct_nil at m
distinct-mem (x ∷ l) a m = go (distinct-mem l) a (rw (distinct_cons x l) at m)
  where
    go : ((a : ℕ) → Mem a (distinct l) → Mem a l) → (a : ℕ) → Mem a (add x (distinct l)) → Mem a (x ∷ l)
    go ih a =
        add-cases (λ k. Mem a k → Mem a (x ∷ l)) x (distinct l) (λ k m. inr (ih a m))
        (λ k. λ m. elim m [ inl e ↦ inl e | inr h ↦ inr (ih a h) ])

pub once_join : (l k : List ℕ) → Once l → Once k → ((a : ℕ) → Mem a l → Mem a k → ⊥) → Once (l ++ k)
once_join [] k o p d = p
once_join (x ∷ l) k o p d = (
  (λ h. mem-join (λ a. a ≡ x → ⊥) l k (λ a m e. o.0 (rw (← e) m)) (λ a m e. d x (inl refl) (rw (← e) m)) x h refl),
  once_join l k o.1 p (λ a m h. d a (inr m) h),
)
