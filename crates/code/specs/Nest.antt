-- A page mended through its nested words, on words.
--   Work                       a page in work: its words, and the numbers of the broken ones, whose errors are not found yet
--   mend_by w o                 the word w with the places o flipped, where there are such
--   mend_all f js ws            the words ws, each of the numbers js mended by what f found for it
--   unfound f js               those of the numbers js for which f found nothing
--   Mem i ks                   i is one of the numbers ks
--   others i ks                the numbers ks but for i
--   node B j k                 α^(j k): sub-word k enters nested word l at α^j with its l-th power
--   error_syndrome p ws ks i j  S_j of the error of sub-word i, by the nested words of ws, where no others than i and ks have errors
--   error_sums p W i j          the same of a page in work, whose broken sub-words are i and the others
--   add_over f ks               the sum of f k over the numbers ks
--   agrees p a S c             the word c has the syndromes S_1 to S_(2 t_a)
--   error_of p a S              the error with these syndromes: of the stored places the first rising list of at most t_a; or none
--   ErrorBy p a S R            R are such places
--   start p ys                 the first pass, each sub-word by itself
--   round_level p b             the level of a round with b broken words
--   found p W i                what a round finds for sub-word i: by the page as it stands when the round begins
--   round p W                  a round
--   end p ws                   the words of a member that is not blank; or none
--   rounds p f W               rounds until none is broken, at most f, and the end
--   mend_page p ys              the whole: the words of the mended page; or none
--   after p ys k               the page in work after the first pass and k rounds
use Rattle.std.specs.Prelude.{◌≡◌, Bool, not, ◌&&◌, cond, ◌⊎◌, List, [], ◌∷◌, map, ℕ, zero, suc, ◌+◌, ◌-◌, ◌*◌, ◌≤◌, ◌<◌, eqb, leb, ltb, length, get_or, set, replicate}
use Rattle.std.proofs.Math.Path.{refl}
use Rattle.std.proofs.Math.Option.{Option, none, some}
use Rattle.polynomial.specs.Xor.{xor}
use Rattle.field.specs.Elements.{element, syndrome}
use Rattle.field.specs.Field.{pow}
use Rattle.field.specs.Fields.{BinaryField, field_of}
use Rattle.field.specs.Flips.{Rising, flips}
use Rattle.field.specs.Unmix.{unmix}
use Rattle.code.specs.declared.Parameters.{Parameters}
use Rattle.code.specs.Code.{failing_number, nearest, nested, tried}
use Rattle.code.specs.Lists.{any, each, ones_in, range}
use Rattle.code.specs.Parameters.{stored, strength}

pub record Work : Type 0 where
  pub words : List ℕ
  pub broken : List ℕ

-- ---- what is found for words is done to them
abbrev pub mend_by : ℕ → Option (List ℕ) → ℕ
mend_by w none = w
mend_by w (some R) = xor w (flips R)

unfoldable pub mend_all : (ℕ → Option (List ℕ)) → List ℕ → List ℕ → List ℕ
unfolding xor flips
mend_all f [] ws = ws
mend_all f (i ∷ js) ws = mend_all f js (set ws i (mend_by (get_or ws i 0) (f i)))

abbrev pub kept_by : Option (List ℕ) → ℕ → List ℕ → List ℕ
kept_by none i l = i ∷ l
kept_by (some R) i l = l

unfoldable pub unfound : (ℕ → Option (List ℕ)) → List ℕ → List ℕ
unfound f [] = []
unfound f (i ∷ js) = kept_by (f i) i (unfound f js)

abbrev pub Mem : ℕ → List ℕ → Type 0
Mem i [] = ⊥
Mem i (k ∷ ks) = (k ≡ i) ⊎ Mem i ks

-- ---- the syndromes of one error out of those of the nested words
unfoldable pub others : ℕ → List ℕ → List ℕ
others i [] = []
others i (k ∷ ks) = cond (eqb k i) (others i ks) (k ∷ others i ks)

abbrev pub node : (B : BinaryField) → ℕ → ℕ → B.field.K
node B j k = pow B.field (pow B.field B.α j) k

unfoldable pub error_syndrome : Parameters → List ℕ → List ℕ → ℕ → ℕ → ℕ
unfolding unmix element syndrome nested field_of pow
error_syndrome p ws ks i j =
    let B = field_of p.q in
    B.num (unmix B (node B j i) (map (node B j) ks) (λ l. element B (syndrome p.q (nested p l ws) j)))

abbrev pub error_sums : Parameters → Work → ℕ → ℕ → ℕ
error_sums p W i = error_syndrome p W.words (others i W.broken) i

unfoldable pub add_over : (ℕ → ℕ) → List ℕ → ℕ
unfolding xor
add_over f [] = 0
add_over f (k ∷ ks) = xor (f k) (add_over f ks)

-- ---- an error by its syndromes
unfoldable pub agrees : Parameters → ℕ → (ℕ → ℕ) → ℕ → Bool
unfolding syndrome any range
agrees p a S c = not (any (λ j. not (eqb (syndrome p.q c j) (S j))) (range 1 (2 * strength p a)))

unfoldable pub error_of : Parameters → ℕ → (ℕ → ℕ) → Option (List ℕ)
unfolding tried agrees
error_of p a S = tried (agrees p a S) 0 (stored p) (strength p a) 0

pub record ErrorBy (p : Parameters) (a : ℕ) (S : ℕ → ℕ) (R : List ℕ) : Type 0 where
  pub rising : Rising 0 (stored p) R
  pub few : length R ≤ strength p a
  pub sums : (j : ℕ) → 0 < j → j ≤ 2 * strength p a → syndrome p.q (flips R) j ≡ S j

-- ---- the first pass, and rounds
abbrev pub alone : Parameters → List ℕ → ℕ → Option (List ℕ)
alone p ys i = nearest p 0 (get_or ys i 0)

unfoldable pub start : Parameters → List ℕ → Work
unfolding mend_all unfound range nearest
start p ys = record { words = mend_all (alone p ys) (range 0 p.m) ys; broken = unfound (alone p ys) (range 0 p.m) }

abbrev pub round_level : Parameters → ℕ → ℕ
round_level p b = p.v - b + 1

unfoldable pub found : Parameters → Work → ℕ → Option (List ℕ)
unfolding error_of error_syndrome others
found p W i = error_of p (round_level p (length W.broken)) (error_sums p W i)

unfoldable pub round : Parameters → Work → Work
unfolding mend_all unfound found
round p W = record { words = mend_all (found p W) W.broken W.words; broken = unfound (found p W) W.broken }

-- ---- the whole
-- every stored coefficient is 1
unfoldable pub all_ones : Parameters → List ℕ → Bool
unfolding each
all_ones p ws = each ones_in (replicate p.m (stored p)) ws

unfoldable pub end : Parameters → List ℕ → Option (List ℕ)
unfolding failing_number all_ones
end p ws = cond (eqb (failing_number p ws) 0 && not (all_ones p ws)) (some ws) none

-- b broken: none, or at most v, of which a round leaves fewer
unfoldable pub rounds : Parameters → ℕ → Work → Option (List ℕ)
unfolding end round
rounds p zero W = cond (leb (length W.broken) 0) (end p W.words) none
rounds p (suc f) W =
    cond (leb (length W.broken) 0) (end p W.words)
    (cond (leb (length W.broken) p.v) (cond (ltb (length (round p W).broken) (length W.broken)) (rounds p f (round p W)) none) none)

unfoldable pub mend_page : Parameters → List ℕ → Option (List ℕ)
unfolding rounds start
mend_page p ys = rounds p p.v (start p ys)

unfoldable pub after : Parameters → List ℕ → ℕ → Work
unfolding start round
after p ys zero = start p ys
after p ys (suc k) = round p (after p ys k)

-- ---- the defining equations
module _ (f : ℕ → Option (List ℕ)) where
  pub mend_all-nil : (ws : List ℕ) → mend_all f [] ws ≡ ws
  unfolding mend_all
  mend_all-nil ws = refl

  pub mend_all-cons : (i : ℕ) (js ws : List ℕ) → mend_all f (i ∷ js) ws ≡ mend_all f js (set ws i (mend_by (get_or ws i 0) (f i)))
  unfolding mend_all
  mend_all-cons i js ws = refl

  pub unfound-nil : unfound f [] ≡ []
  unfolding unfound
  unfound-nil = refl

  pub unfound-cons : (i : ℕ) (js : List ℕ) → unfound f (i ∷ js) ≡ kept_by (f i) i (unfound f js)
  unfolding unfound
  unfound-cons i js = refl

pub others-nil : (i : ℕ) → others i [] ≡ []
unfolding others
others-nil i = refl

pub others-cons : (i k : ℕ) (ks : List ℕ) → others i (k ∷ ks) ≡ cond (eqb k i) (others i ks) (k ∷ others i ks)
unfolding others
others-cons i k ks = refl

module _ (f : ℕ → ℕ) where
  pub add_over-nil : add_over f [] ≡ 0
  unfolding add_over
  add_over-nil = refl

  pub add_over-cons : (k : ℕ) (ks : List ℕ) → add_over f (k ∷ ks) ≡ xor (f k) (add_over f ks)
  unfolding add_over
  add_over-cons k ks = refl

module _ (p : Parameters) where
  abbrev B : BinaryField
  B = field_of p.q

  pub error_syndrome-eq : (ws ks : List ℕ) (i j : ℕ)
      → error_syndrome p ws ks i j ≡ B.num (unmix B (node B j i) (map (node B j) ks) (λ l. element B (syndrome p.q (nested p l ws) j)))
  unfolding error_syndrome
  error_syndrome-eq ws ks i j = refl

  pub agrees-eq : (a : ℕ) (S : ℕ → ℕ) (c : ℕ) → agrees p a S c ≡ not (any (λ j. not (eqb (syndrome p.q c j) (S j))) (range 1 (2 * strength p a)))
  unfolding agrees
  agrees-eq a S c = refl

  pub error_of-eq : (a : ℕ) (S : ℕ → ℕ) → error_of p a S ≡ tried (agrees p a S) 0 (stored p) (strength p a) 0
  unfolding error_of
  error_of-eq a S = refl

  pub start-words : (ys : List ℕ) → (start p ys).words ≡ mend_all (alone p ys) (range 0 p.m) ys
  unfolding start
  start-words ys = refl

  pub start-broken : (ys : List ℕ) → (start p ys).broken ≡ unfound (alone p ys) (range 0 p.m)
  unfolding start
  start-broken ys = refl

  pub found-eq : (W : Work) (i : ℕ) → found p W i ≡ error_of p (round_level p (length W.broken)) (error_sums p W i)
  unfolding found
  found-eq W i = refl

  pub round-words : (W : Work) → (round p W).words ≡ mend_all (found p W) W.broken W.words
  unfolding round
  round-words W = refl

  pub round-broken : (W : Work) → (round p W).broken ≡ unfound (found p W) W.broken
  unfolding round
  round-broken W = refl

  pub all_ones-eq : (ws : List ℕ) → all_ones p ws ≡ each ones_in (replicate p.m (stored p)) ws
  unfolding all_ones
  all_ones-eq ws = refl

  pub end-eq : (ws : List ℕ) → end p ws ≡ cond (eqb (failing_number p ws) 0 && not (all_ones p ws)) (some ws) none
  unfolding end
  end-eq ws = refl

  pub rounds-zero : (W : Work) → rounds p zero W ≡ cond (leb (length W.broken) 0) (end p W.words) none
  unfolding rounds
  rounds-zero W = refl

  pub rounds-suc : (f : ℕ) (W : Work) → rounds p (suc f) W
      ≡ cond (leb (length W.broken) 0) (end p W.words)
      (cond (leb (length W.broken) p.v)
      (cond (ltb (length (round p W).broken) (length W.broken)) (rounds p f (round p W)) none) none)
  unfolding rounds
  rounds-suc f W = refl

  pub mend_page-eq : (ys : List ℕ) → mend_page p ys ≡ rounds p p.v (start p ys)
  unfolding mend_page
  mend_page-eq ys = refl

  pub after-zero : (ys : List ℕ) → after p ys zero ≡ start p ys
  unfolding after
  after-zero ys = refl

  pub after-suc : (ys : List ℕ) (k : ℕ) → after p ys (suc k) ≡ round p (after p ys k)
  unfolding after
  after-suc ys k = refl
