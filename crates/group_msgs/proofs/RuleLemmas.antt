-- What rules say that found no fault.
use Rattle.std.proofs.Common.{◌≡◌, ◌≢◌, ℕ, suc, ◌++◌, [], arith, ◌+◌, ◌*◌, ◌/◌, ◌<◌, ◌≤◌, Bool, true, false, cond, eqb, List, ◌∷◌, length, Option, None, Some, refl, sym, ap, ◌∙◌, inl, inr}
use Rattle.std.specs.Prelude.{◌&&◌, nat_le, nat_lt}
use Rattle.std.specs.Option.{option_or}
use Rattle.std.proofs.lemmas.Bool.{and_parts, leb-true, eqb-true, cond-true, cond-false, ne_eqb, eq-eqb, lt-ltb, le-leb, le-ltb, lt-leb, cases_eq}
use Rattle.std.proofs.lemmas.List.FromFn.{length-map-range_with_len}
use Rattle.group_quorum.specs.declared.TheConstants.{MAX_VOTERS, MAX_ID, MAX_MARGIN}
use Rattle.values.specs.declared.limits.TheConstants.{MAX_PARTS, MOST_ROWS, ROWS_PER_PART, TOP}
use Rattle.group_msgs.specs.declared.fault.PeerFault.{PeerFault}
use Rattle.group_msgs.specs.declared.fault.PeerFault.TheVariants.{Memory, Range, Size, NotCanonical}
use Rattle.group_msgs.specs.Known.{Known, u64_at, u32_at, bytes_at}
use Rattle.group_msgs.specs.Values.{ids_in}
use Rattle.client_msgs.specs.Strict.{is_canonical}
use Rattle.client_msgs.proofs.SizesLemmas.{or-none}
use Rattle.group_msgs.specs.Rules.{rule, first_of, at_most, from_1_to, index_rule, size_rule, rise_above, voters_fault, are_enough, ask_fault, members_fault, kind_fault, entry_fault, entries_fault, kept_fault, row_fault, rows_fault, item_fault, items_fault, point_fault, append_fault, part_fault, range_fault}

pub rule-none : (holds : Bool) (fault : PeerFault) → rule holds fault ≡ None → holds ≡ true
rule-none true fault is = refl
rule-none false fault is = absurd cc

pub none-rule : (holds : Bool) (fault : PeerFault) → holds ≡ true → rule holds fault ≡ None
none-rule holds fault is = cond-true holds None (Some fault) is

pub none-or : {X : Type 0} (a b : Option X) → a ≡ None → b ≡ None → option_or a b ≡ None
none-or a b p q = ap (λ (o : Option _). option_or o b) p ∙ q

pub size-none : (field size : ℕ) (bytes : List ℕ) → size_rule field size bytes ≡ None → length bytes ≡ size
size-none field size bytes is = eqb-true (length bytes) size (rule-none _ _ is)

pub at_most-none : (field most n : ℕ) → at_most field most n ≡ None → n ≤ most
at_most-none field most n is = leb-true n most (rule-none _ _ is)

pub from_1_to-none : (field most n : ℕ) → from_1_to field most n ≡ None → (1 ≤ n) × (n ≤ most)
from_1_to-none field most n is =
    let both = and_parts (nat_le 1 n) (nat_le n most) (rule-none _ _ is) in
    (leb-true 1 n both.0, leb-true n most both.1)

pub length-ids_in : (bytes : List ℕ) → length (ids_in bytes) ≡ length bytes / 4
length-ids_in bytes = length-map-range_with_len _ 0 (length bytes / 4)

-- voters
pub record AreVoters (bytes : List ℕ) : Type 0 where
  pub some : 4 ≤ length bytes
  pub few : length bytes ≤ 4 * MAX_VOTERS
  pub rising : rise_above 0 (ids_in bytes) ≡ true

pub voters-none : (bytes : List ℕ) → voters_fault bytes ≡ None → AreVoters bytes
voters-none bytes is =
    let parts = or-none _ _ is in
    let long = and_parts (nat_le 4 (length bytes) && nat_le (length bytes) (4 * MAX_VOTERS)) _ (rule-none _ _ parts.0) in
    let ends = and_parts (nat_le 4 (length bytes)) (nat_le (length bytes) (4 * MAX_VOTERS)) long.0 in
    record {
      some = leb-true 4 (length bytes) ends.0;
      few = leb-true (length bytes) (4 * MAX_VOTERS) ends.1;
      rising = rule-none _ _ (or-none _ _ parts.1).0;
    }

-- entries
pub ask-client : (place : ℕ) (x : Known) → ask_fault place x ≡ None → length (bytes_at 3 x) ≡ 16
ask-client place x is = size-none 3 16 (bytes_at 3 x) (or-none _ _ is).0

pub ask-canonical : (place : ℕ) (x : Known) → ask_fault place x ≡ None → is_canonical (bytes_at 5 x) ≡ true
ask-canonical place x is = rule-none _ _ (or-none _ _ (or-none (size_rule 3 16 (bytes_at 3 x)) _ is).1).0

pub members-voters : (x : Known) → members_fault x ≡ None → AreVoters (bytes_at 6 x)
members-voters x is = voters-none (bytes_at 6 x) (or-none _ _ is).0

pub members-margin : (x : Known) → members_fault x ≡ None → (u32_at 7 x ≤ MAX_MARGIN) × (2 * u32_at 7 x + 1 ≤ length (ids_in (bytes_at 6 x)))
members-margin x is =
    let holds = rule-none _ _ (or-none _ _ (or-none _ _ is).1).0 in
    let both = and_parts (nat_le (u32_at 7 x) MAX_MARGIN) (are_enough (u32_at 7 x) (ids_in (bytes_at 6 x))) holds in
    (leb-true (u32_at 7 x) MAX_MARGIN both.0, leb-true (2 * u32_at 7 x + 1) (length (ids_in (bytes_at 6 x))) both.1)

pub kind-ask : (place kind : ℕ) (x : Known) → kind ≡ 1 → kind_fault place kind x ≡ None → ask_fault place x ≡ None
kind-ask place kind x is none = ap (λ (k : ℕ). kind_fault place k x) (sym is) ∙ none

pub kind-members : (place kind : ℕ) (x : Known) → kind ≢ 0 → kind ≢ 1 → kind_fault place kind x ≡ None → (kind ≡ 2) × (members_fault x ≡ None)
kind-members place kind x not_0 not_1 none =
    let rest : cond (eqb kind 2) (members_fault x) (Some _) ≡ None = sym (cond-false (eqb kind 1) _ _ (ne_eqb kind 1 not_1)) ∙ sym (cond-false (eqb kind 0) _ _ (ne_eqb kind 0 not_0)) ∙ none in
    elim (cases_eq kind 2) [
      | inl two ↦ (two, sym (cond-true (eqb kind 2) _ _ (eq-eqb kind 2 two)) ∙ rest)
      | inr other ↦ absurd (some_none (sym (cond-false (eqb kind 2) _ _ (ne_eqb kind 2 other)) ∙ rest))
    ]
  where
    some_none : {X : Type 0} {y : X} → Some y ≡ None → ⊥
    some_none e = absurd cc

-- ---- one id after the other

pub rise-good : (last id : ℕ) (ids : List ℕ) → last < id → id ≤ MAX_ID → rise_above last (id ∷ ids) ≡ rise_above id ids
rise-good last id ids above below = ap (λ (b : Bool). (b && nat_le id MAX_ID) && rise_above id ids) (lt-ltb last id above) ∙ ap (λ (b : Bool). (true && b) && rise_above id ids) (le-leb id MAX_ID below)

pub rise-low : (last id : ℕ) (ids : List ℕ) → id ≤ last → rise_above last (id ∷ ids) ≡ false
rise-low last id ids low = ap (λ (b : Bool). (b && nat_le id MAX_ID) && rise_above id ids) (le-ltb last id low)

pub rise-high : (last id : ℕ) (ids : List ℕ) → last < id → MAX_ID < id → rise_above last (id ∷ ids) ≡ false
rise-high last id ids above high = ap (λ (b : Bool). (b && nat_le id MAX_ID) && rise_above id ids) (lt-ltb last id above) ∙ ap (λ (b : Bool). (true && b) && rise_above id ids) (lt-leb id MAX_ID high)

-- ---- one message more of a list

or-none-right : {X : Type 0} (a : Option X) → a ≡ option_or a None
or-none-right None = refl
or-none-right (Some x) = refl

or-assoc : {X : Type 0} (a b c : Option X) → option_or a (option_or b c) ≡ option_or (option_or a b) c
or-assoc None b c = refl
or-assoc (Some x) b c = refl

entries-push : (place : ℕ) (xs : List Known) (x : Known) → option_or (entries_fault place xs) (entry_fault (place + length xs) x) ≡ entries_fault place (xs ++ x ∷ [])
entries-push place [] x = let e : place + 0 ≡ place = omega arith in ap (λ (n : ℕ). entry_fault n x) e ∙ or-none-right (entry_fault place x)
entries-push place (y ∷ xs) x =
    let e : place + suc (length xs) ≡ place + 1 + length xs = omega arith in
    sym (or-assoc (entry_fault place y) (entries_fault (place + 1) xs) (entry_fault (place + suc (length xs)) x))
    ∙ ap (λ (n : ℕ). option_or (entry_fault place y) (option_or (entries_fault (place + 1) xs) (entry_fault n x))) e
    ∙ ap (option_or (entry_fault place y)) (entries-push (place + 1) xs x)

rows-push : (xs : List Known) (x : Known) → option_or (rows_fault xs) (row_fault x) ≡ rows_fault (xs ++ x ∷ [])
rows-push [] x = or-none-right (row_fault x)
rows-push (y ∷ xs) x = sym (or-assoc (row_fault y) (rows_fault xs) (row_fault x)) ∙ ap (option_or (row_fault y)) (rows-push xs x)

pub items-push : (member : ℕ) (xs : List Known) (x : Known) → option_or (items_fault member xs) (item_fault member (length xs) x) ≡ items_fault member (xs ++ x ∷ [])
items-push member xs x = by (eqb member 4)
  where
    by : (b : Bool) → option_or (cond b (entries_fault 0 xs) (rows_fault xs)) (cond b (entry_fault (length xs) x) (row_fault x)) ≡ cond b (entries_fault 0 (xs ++ x ∷ [])) (rows_fault (xs ++ x ∷ []))
    by true = let e : 0 + length xs ≡ length xs = omega arith in ap (λ (n : ℕ). option_or (entries_fault 0 xs) (entry_fault n x)) (sym e) ∙ entries-push 0 xs x
    by false = rows-push xs x

pub no_items : (member : ℕ) → None ≡ items_fault member []
no_items member = by (eqb member 4)
  where
    by : (b : Bool) → None ≡ cond b (entries_fault 0 []) (rows_fault [])
    by true = refl
    by false = refl

-- ---- no rule wants memory

abbrev IsRule : Option PeerFault → Type 0
IsRule found = found ≡ Some Memory → ⊥

of_rule : (holds : Bool) (fault : PeerFault) → (fault ≡ Memory → ⊥) → IsRule (rule holds fault)
of_rule true fault other is = absurd cc
of_rule false fault other is = other cc

of_or : (a b : Option PeerFault) → IsRule a → IsRule b → IsRule (option_or a b)
of_or None b first second is = second is
of_or (Some x) b first second is = first is

of_cond : (b : Bool) (x y : Option PeerFault) → IsRule x → IsRule y → IsRule (cond b x y)
of_cond true x y first second is = first is
of_cond false x y first second is = second is

of_none : IsRule None
of_none is = absurd cc

of_range : (holds : Bool) (field : ℕ) → IsRule (rule holds (Range field))
of_range holds field = of_rule holds (Range field) (λ e. absurd cc)

of_size : (holds : Bool) (field size : ℕ) → IsRule (rule holds (Size field size))
of_size holds field size = of_rule holds (Size field size) (λ e. absurd cc)

of_list : (a b : Option PeerFault) → IsRule a → IsRule b → IsRule (first_of (a ∷ b ∷ []))
of_list a b first second = of_or a _ first (of_or b None second of_none)

of_point : (x : Known) → IsRule (point_fault x)
of_point x = of_list _ _ (of_range _ 1) (of_size _ 2 _)

of_voters : (bytes : List ℕ) → IsRule (voters_fault bytes)
of_voters bytes = of_list _ _ (of_size _ 6 _) (of_range _ 6)

of_entry : (place : ℕ) (x : Known) → IsRule (entry_fault place x)
of_entry place x =
    of_list _ _ (of_range _ 1)
    (of_cond (eqb (u32_at 2 x) 0) _ _ of_none (of_cond (eqb (u32_at 2 x) 1) _ _ (of_list _ _ (of_size _ 3 _) (of_rule _ (NotCanonical place) (λ e. absurd cc)))
    (of_cond (eqb (u32_at 2 x) 2) _ _ (of_list _ _ (of_voters (bytes_at 6 x)) (of_range _ 7)) (λ e. absurd cc))))

of_entries : (place : ℕ) (xs : List Known) → IsRule (entries_fault place xs)
of_entries place [] = of_none
of_entries place (x ∷ xs) = of_or (entry_fault place x) _ (of_entry place x) (of_entries (place + 1) xs)

of_kept : (secret : List ℕ) (x : Known) → IsRule (kept_fault secret x)
of_kept [] x = of_none
of_kept (b ∷ bytes) x = of_or _ _ (of_size _ 3 _) (of_list _ _ (of_size _ 4 _) (of_range _ 5))

of_rows : (xs : List Known) → IsRule (rows_fault xs)
of_rows [] = of_none
of_rows (x ∷ xs) = of_or (row_fault x) _ (of_list _ _ (of_size _ 1 _) (of_kept (bytes_at 3 x) x)) (of_rows xs)

of_append : (x : Known) (entries : List Known) → IsRule (append_fault x entries)
of_append x entries = of_or (point_fault x) _ (of_point x) (of_or _ _ (of_range _ 3) (of_or _ _ (of_size _ 3 _) (of_or (entries_fault 0 entries) _ (of_entries 0 entries) (of_list _ _ (of_range _ 4) (of_range _ 5)))))

of_part : (x : Known) (rows : List Known) → IsRule (part_fault x rows)
of_part x rows =
    of_or (point_fault x) _ (of_point x) (of_or (index_rule 3 x) _ (of_range (nat_le (u64_at 3 x) TOP) 3) (of_or (index_rule 4 x) _ (of_range (nat_le (u64_at 4 x) TOP) 4) (of_or _ _ (of_range (nat_le (u64_at 4 x) (u64_at 1 x)) 4)
    (of_or _ _ (of_range (nat_le (u32_at 5 x) MAX_MARGIN) 5) (of_or (voters_fault (bytes_at 6 x)) _ (of_voters (bytes_at 6 x)) (of_or _ _ (of_range (are_enough (u32_at 5 x) (ids_in (bytes_at 6 x))) 5)
    (of_or _ _ (of_range (nat_le 1 (u32_at 7 x) && nat_le (u32_at 7 x) MOST_ROWS) 7) (of_or _ _ (of_range (nat_lt (u32_at 8 x) (u32_at 9 x)) 8) (of_or _ _ (of_range (nat_le 1 (u32_at 9 x) && nat_le (u32_at 9 x) MAX_PARTS) 9)
    (of_list _ _ (of_size (nat_le (length rows) ROWS_PER_PART) 10 (length rows)) (of_rows rows)))))))))))

of_indices : (x : Known) → IsRule (first_of (index_rule 1 x ∷ index_rule 2 x ∷ []))
of_indices x = of_list _ _ (of_range _ 1) (of_range _ 2)

pub rules_no_memory : (term number : ℕ) (x : Known) (listed : List Known) → range_fault term number x listed ≡ Some Memory → ⊥
rules_no_memory term number x listed =
    of_or _ _ (of_range _ 1) (of_cond (eqb number 2) _ _ (of_indices x) (of_cond (eqb number 3) _ _ of_none (of_cond (eqb number 4) _ _ (of_append x listed)
    (of_cond (eqb number 5) _ _ (of_list _ _ (of_point x) (of_range _ 3)) (of_cond (eqb number 6) _ _ (of_indices x) (of_cond (eqb number 7) _ _ (of_part x listed) (of_point x)))))))
