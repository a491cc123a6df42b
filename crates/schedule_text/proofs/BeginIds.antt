-- The voters of a begin record, read one by one.
use Rattle.std.proofs.Common.{arith, refl, sym, ap, subst, inl, inr, get_or-set_other, get_or-set_same, set, ◌∙◌, ◌≡◌, ◌≢◌, ◌+◌, ◌≤◌, ◌<◌, ℕ, zero, suc, add-one, Bool, true, false, ◌&&◌, List, [], ◌∷◌, ◌++◌, length, take, drop, drop-cons, get_or, map, append-nil, append_assoc, Option, Some, None, Result, Ok, Err}
use Rattle.std.specs.Prelude.{not, nat_le, if◌then◌else◌, option_map}
use Rattle.std.proofs.lemmas.Bool.{cases_lt}
use Rattle.std.proofs.lemmas.List.{ext_get_or, get_or-map, get_or-take, length-map, length-take, take_all, take_more}
use Rattle.group_quorum.specs.Conf.{Conf}
use Rattle.group_quorum.specs.Voters.{conf_of, conf_or, fault_of}
use Rattle.group_quorum.specs.declared.ConfigFault.{ConfigFault}
use Rattle.group_quorum.specs.declared.TheConstants.{MAX_ID, MAX_VOTERS}
use Rattle.values.specs.declared.event.Cause.TheVariants.{Number, Range}
use Rattle.schedule_model.specs.Reading.{RecordFault, ◌>>=◌, fault, is_number, number_of, replicas_from, value_of_digits}
use Rattle.schedule_model.specs.Records.{cause_of}
use Rattle.schedule_text.specs.Ids.{HoldsFirst}

-- ids before those that are read on
abbrev pub onto : List ℕ → Result (List ℕ) RecordFault → Result (List ℕ) RecordFault
onto ids (Ok more) = Ok (ids ++ more)
onto ids (Err f) = Err f

onto_onto : (a b : List ℕ) (r : Result (List ℕ) RecordFault) → onto a (onto b r) ≡ onto (a ++ b) r
onto_onto a b (Ok more) = ap Ok (sym (append_assoc a b more))
onto_onto a b (Err f) = refl

-- a number that is read is the value of its digits
value_if : (b c : Bool) (v k n : ℕ) → (if b then fault Number k else if c then Ok v else fault Range k) ≡ Ok n → n ≡ v
value_if true c v k n h = cc h
value_if false true v k n h = cc h
value_if false false v k n h = cc h

value_of : (text : List ℕ) (k low high n : ℕ) → number_of text k low high ≡ Ok n → n ≡ value_of_digits text
value_of text k low high n h = value_if (not (is_number text)) (nat_le low (value_of_digits text) && nat_le (value_of_digits text) high) (value_of_digits text) k n h

abbrev pub values : List (List ℕ) → List ℕ
values texts = map value_of_digits texts

-- the ids of the texts before i, and then the others
abbrev pub ReadTo : List (List ℕ) → ℕ → Type 0
ReadTo texts i = replicas_from 4 texts ≡ onto (values (take i texts)) (replicas_from (i + 4) (drop i texts))

pub none_read : (texts : List (List ℕ)) → ReadTo texts 0
none_read texts = go (replicas_from 4 texts)
  where
    go : (r : Result (List ℕ) RecordFault) → r ≡ onto [] r
    go (Ok ids) = refl
    go (Err f) = refl

-- one more is read
pub next_read : (texts : List (List ℕ)) (i n : ℕ) → i < length texts → ReadTo texts i → number_of (get_or texts i []) (i + 4) 1 MAX_ID ≡ Ok n → ReadTo texts (i + 1)
next_read texts i n within so_far is =
    let text = get_or texts i [] in
    let rest = drop (i + 1) texts in
    let value = value_of text (i + 4) 1 MAX_ID n is in
    let parts : drop i texts ≡ text ∷ rest = rw add-one (drop-cons texts i [] within) in
    let this : replicas_from (i + 4) (text ∷ rest) ≡ onto (value_of_digits text ∷ []) (replicas_from (i + 4 + 1) rest) =
    rw (is, value) (reads_one (value_of_digits text) (replicas_from (i + 4 + 1) rest)) in
    let more : take (i + 1) texts ≡ take i texts ++ (text ∷ []) = take_more texts i [] within in
    let place : i + 4 + 1 ≡ i + 1 + 4 = omega arith in
    so_far
    ∙ ap (λ l. onto (values (take i texts)) (replicas_from (i + 4) l)) parts
    ∙ ap (onto (values (take i texts))) this
    ∙ onto_onto (values (take i texts)) (value_of_digits text ∷ []) (replicas_from (i + 4 + 1) rest)
    ∙ rw (more, place) (ap (λ l. onto l (replicas_from (i + 1 + 4) rest)) (sym (map_more (take i texts) text)))
  where
    reads_one : (v : ℕ) (r : Result (List ℕ) RecordFault) → (r >>= (λ ids. Ok (v ∷ ids))) ≡ onto (v ∷ []) r
    reads_one v (Ok ids) = refl
    reads_one v (Err f) = refl

    map_more : (before : List (List ℕ)) (text : List ℕ) → values (before ++ (text ∷ [])) ≡ values before ++ (value_of_digits text ∷ [])
    map_more [] text = refl
    map_more (t ∷ before) text = ap (λ l. value_of_digits t ∷ l) (map_more before text)

-- one is no id
pub none_more : (texts : List (List ℕ)) (i : ℕ) (f : RecordFault) → i < length texts → ReadTo texts i → number_of (get_or texts i []) (i + 4) 1 MAX_ID ≡ Err f → replicas_from 4 texts ≡ Err f
none_more texts i f within so_far is =
    let rest = drop (suc i) texts in
    let this : replicas_from (i + 4) (get_or texts i [] ∷ rest) ≡ Err f = rw is refl in
    so_far ∙ ap (λ l. onto (values (take i texts)) (replicas_from (i + 4) l)) (drop-cons texts i [] within) ∙ ap (onto (values (take i texts))) this

-- nothing is left behind the last one
pub none_left : {A : Type 0} (xs : List A) (i : ℕ) → length xs ≤ i → drop i xs ≡ []
none_left [] zero end = refl
none_left [] (suc i) end = refl
none_left (x ∷ xs) zero end = absurd (omega arith)
none_left (x ∷ xs) (suc i) end = none_left xs i (omega arith)

pub all_read : (texts : List (List ℕ)) (i : ℕ) → length texts ≤ i → ReadTo texts i → replicas_from 4 texts ≡ Ok (values texts)
all_read texts i end so_far =
    so_far ∙ rw (take_all i texts end, none_left texts i end) (ap Ok (append-nil (values texts)))

-- the array has the first of the ids
abbrev pub HasFirst : List ℕ → List (List ℕ) → ℕ → Type 0
HasFirst array texts i = (j : ℕ) → j < i → j < MAX_VOTERS → get_or array j 0 ≡ get_or (values texts) j 0

pub next_kept : (array : List ℕ) (texts : List (List ℕ)) (i k n : ℕ) → length array ≡ MAX_VOTERS → i < MAX_VOTERS → i < length texts → number_of (get_or texts i []) k 1 MAX_ID ≡ Ok n
    → HasFirst array texts i → HasFirst (set array i n) texts (i + 1)
next_kept array texts i k n size room within is has j lt among =
    elim (cases_lt j i) [
      | inl early ↦ let other : j ≢ i = omega arith in get_or-set_other array i j n 0 other ∙ has j early among
      | inr late ↦
          let here : i ≡ j = omega arith in
          subst (λ m. get_or (set array i n) m 0 ≡ get_or (values texts) m 0) here
          (get_or-set_same array i n 0 (omega (arith, size, room)) ∙ value_of (get_or texts i []) k 1 MAX_ID n is ∙ sym (get_or-map value_of_digits texts i [] 0 within))
    ]

pub past_kept : (array : List ℕ) (texts : List (List ℕ)) (i : ℕ) → MAX_VOTERS ≤ i → HasFirst array texts i → HasFirst array texts (i + 1)
past_kept array texts i past has j lt among = has j (omega arith) among

pub holds_first : (array : List ℕ) (texts : List (List ℕ)) (i : ℕ) → length array ≡ MAX_VOTERS → length texts ≤ i → HasFirst array texts i → HoldsFirst array (values texts)
holds_first array texts i size end has =
    let ids = values texts in
    let count : length ids ≡ length texts = length-map texts value_of_digits in
    let left = length-take (length ids) array in
    let right = length-take MAX_VOTERS ids in
    ext_get_or 0 (take (length ids) array) (take MAX_VOTERS ids) (omega (arith, left, right, size))
    (λ j within.
    let before : j < length ids = omega (arith, left, within, size) in
    let among : j < MAX_VOTERS = omega (arith, left, within, size) in
    get_or-take (length ids) array j 0 before ∙ has j (omega (arith, count, before, end)) among ∙ sym (get_or-take MAX_VOTERS ids j 0 among))

-- ---- what is wrong with them

fault_free : (o : Option ConfigFault) (margin : ℕ) (ids : List ℕ) (c : Conf) → Ok c ≡ conf_or o margin ids → None ≡ option_map cause_of o
fault_free None margin ids c is = refl
fault_free (Some f) margin ids c is = cc is

fault_said : (o : Option ConfigFault) (margin : ℕ) (ids : List ℕ) (f : ConfigFault) → Err f ≡ conf_or o margin ids → Some (cause_of f) ≡ option_map cause_of o
fault_said None margin ids f is = cc is
fault_said (Some g) margin ids f is = ap (λ x. Some (cause_of x)) (some_fault f g margin ids is)
  where
    some_fault : (f g : ConfigFault) (margin : ℕ) (ids : List ℕ) → Err f ≡ conf_or (Some g) margin ids → f ≡ g
    some_fault f g margin ids is = cc is

-- the first of so few are all of them
pub these : (array all : List ℕ) (count : ℕ) → count ≤ MAX_VOTERS → length all ≡ count → HoldsFirst array all → take count array ≡ all
these array all count few size holds = rw size at (holds ∙ take_all MAX_VOTERS all (omega (arith, few, size)))

pub no_fault : (array all : List ℕ) (count margin : ℕ) (c : Conf) → count ≤ MAX_VOTERS → length all ≡ count → HoldsFirst array all
    → Ok c ≡ conf_of margin (take count array) → None ≡ option_map cause_of (fault_of margin all)
no_fault array all count margin c few size holds is =
    fault_free (fault_of margin all) margin all c (is ∙ ap (conf_of margin) (these array all count few size holds))

pub this_fault : (array all : List ℕ) (count margin : ℕ) (f : ConfigFault) → count ≤ MAX_VOTERS → length all ≡ count → HoldsFirst array all
    → Err f ≡ conf_of margin (take count array) → Some (cause_of f) ≡ option_map cause_of (fault_of margin all)
this_fault array all count margin f few size holds is =
    fault_said (fault_of margin all) margin all f (is ∙ ap (conf_of margin) (these array all count few size holds))
