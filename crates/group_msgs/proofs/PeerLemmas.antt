-- A message whose rules found no fault.
use Rattle.std.proofs.Common.{◌≡◌, ◌≢◌, ℕ, ◌+◌, ◌*◌, ◌<◌, ◌≤◌, Bool, false, cond, eqb, List, [], ◌∷◌, length, map, filter, Option, None, Some, Result, Err, refl, sym, ap, subst, ◌∙◌, arith, inl, inr}
use Rattle.std.specs.Prelude.{◌&&◌, is_some, nat_le}
use Rattle.std.specs.List.{AllByRecursion}
use Rattle.std.proofs.lemmas.Bool.{leb-true, ltb-true, and_parts, cases_eq, cond-true, cond-false, eq-eqb, ne_eqb}
use Rattle.std.proofs.lemmas.List.{take_all, length-map}
use Rattle.std.proofs.lemmas.List.Elements.{All-from_recursion}
use Rattle.proto_wire.specs.declared.field.WireFault.{WireFault}
use Rattle.proto_wire.specs.Fields.{Field}
use Rattle.proto_wire.specs.Reading.{block_in, embedded}
use Rattle.values.specs.declared.peer.PeerMsg.{PeerMsg}
use Rattle.group_quorum.specs.Voters.{IsSound}
use Rattle.values.specs.declared.limits.TheConstants.{MAX_ENTRIES, ROWS_PER_PART, TOP, MAX_PARTS, MOST_ROWS}
use Rattle.group_quorum.specs.declared.TheConstants.{MAX_MARGIN}
use Rattle.group_msgs.specs.declared.fault.PeerFault.{PeerFault}
use Rattle.group_msgs.specs.declared.fault.PeerFault.TheVariants as faults
use Rattle.group_msgs.specs.declared.gather.Member.{Member}
use Rattle.group_msgs.specs.Known.{Known, known_of, u64_at, u32_at, bytes_at}
use Rattle.group_msgs.specs.Reading.{listed_in}
use Rattle.group_msgs.specs.Gathered.{seen, IsOf, IsLast}
use Rattle.values.specs.Terms.{term_of}
use Rattle.group_msgs.specs.Values.{ids_in, body_of, entry_of, kept_with, row_of, message_of}
use Rattle.group_msgs.specs.Rules.{at_most, index_rule, point_fault, kind_fault, entry_fault, entries_fault, kept_fault, row_fault, rows_fault, append_fault, part_fault, fields_fault, range_fault, are_enough}
use Rattle.group_msgs.specs.Peer.{unless_broken, checked, peer_in, ReadsPeer}
use Rattle.group_msgs.specs.Ranges.{IsIndex, IsBodyInRange, IsEntryInRange, IsKeptInRange, IsRowInRange, IsMemberInRange, IsInRange}
use Rattle.client_msgs.proofs.SizesLemmas.{or-none}
use Rattle.group_msgs.proofs.RuleLemmas.{rule-none, size-none, at_most-none, from_1_to-none, AreVoters, voters-none, length-ids_in, ask-canonical, members-voters, members-margin, kind-ask, kind-members}
use Rattle.group_msgs.proofs.VoterLemmas.{increasing-from, ids-from}

-- ---- what each member's rules say

pub record IsPoint (x : Known) : Type 0 where
  pub index : u64_at 1 x ≤ TOP
  pub hash : length (bytes_at 2 x) ≡ 32

pub point-none : (x : Known) → point_fault x ≡ None → IsPoint x
point-none x is =
    let a = or-none (index_rule 1 x) _ is in
    record { index = at_most-none 1 TOP (u64_at 1 x) a.0; hash = size-none 2 32 (bytes_at 2 x) (or-none _ _ a.1).0 }

pub record IsAppend (x : Known) (entries : List Known) : Type 0 where
  pub point : IsPoint x
  pub end : u64_at 1 x + length entries ≤ TOP
  pub few : length entries ≤ MAX_ENTRIES
  pub entries_none : entries_fault 0 entries ≡ None
  pub promise : u64_at 4 x ≤ TOP
  pub commit : u64_at 5 x ≤ TOP

pub append-none : (x : Known) (entries : List Known) → append_fault x entries ≡ None → IsAppend x entries
append-none x entries is =
    let a = or-none (point_fault x) _ is in
    let b = or-none _ _ a.1 in
    let c = or-none _ _ b.1 in
    let d = or-none (entries_fault 0 entries) _ c.1 in
    let e = or-none (index_rule 4 x) _ d.1 in
    record {
      point = point-none x a.0;
      end = at_most-none 3 TOP (u64_at 1 x + length entries) b.0;
      few = leb-true (length entries) MAX_ENTRIES (rule-none _ _ c.0);
      entries_none = d.0;
      promise = at_most-none 4 TOP (u64_at 4 x) e.0;
      commit = at_most-none 5 TOP (u64_at 5 x) (or-none _ _ e.1).0;
    }

pub record IsPart (x : Known) (rows : List Known) : Type 0 where
  pub point : IsPoint x
  pub last_term : u64_at 3 x ≤ TOP
  pub conf_index : u64_at 4 x ≤ u64_at 1 x
  pub margin : u32_at 5 x ≤ MAX_MARGIN
  pub voters : AreVoters (bytes_at 6 x)
  pub enough : 2 * u32_at 5 x + 1 ≤ length (ids_in (bytes_at 6 x))
  pub limit : (1 ≤ u32_at 7 x) × (u32_at 7 x ≤ MOST_ROWS)
  pub part : u32_at 8 x < u32_at 9 x
  pub parts : u32_at 9 x ≤ MAX_PARTS
  pub few : length rows ≤ ROWS_PER_PART
  pub rows_none : rows_fault rows ≡ None

pub part-none : (x : Known) (rows : List Known) → part_fault x rows ≡ None → IsPart x rows
part-none x rows is =
    let a = or-none (point_fault x) _ is in
    let b = or-none (index_rule 3 x) _ a.1 in
    let c = or-none (index_rule 4 x) _ b.1 in
    let d = or-none (at_most 4 (u64_at 1 x) (u64_at 4 x)) _ c.1 in
    let e = or-none (at_most 5 MAX_MARGIN (u32_at 5 x)) _ d.1 in
    let f = or-none _ _ e.1 in
    let g = or-none _ _ f.1 in
    let h = or-none _ _ g.1 in
    let i = or-none _ _ h.1 in
    let j = or-none _ _ i.1 in
    let k = or-none _ _ j.1 in
    record {
      point = point-none x a.0;
      last_term = at_most-none 3 TOP (u64_at 3 x) b.0;
      conf_index = at_most-none 4 (u64_at 1 x) (u64_at 4 x) d.0;
      margin = at_most-none 5 MAX_MARGIN (u32_at 5 x) e.0;
      voters = voters-none (bytes_at 6 x) f.0;
      enough = leb-true (2 * u32_at 5 x + 1) (length (ids_in (bytes_at 6 x))) (rule-none (are_enough (u32_at 5 x) (ids_in (bytes_at 6 x))) _ g.0);
      limit = from_1_to-none 7 MOST_ROWS (u32_at 7 x) h.0;
      part = ltb-true (u32_at 8 x) (u32_at 9 x) (rule-none _ _ i.0);
      parts = (from_1_to-none 9 MAX_PARTS (u32_at 9 x) j.0).1;
      few = leb-true (length rows) ROWS_PER_PART (rule-none _ _ k.0);
      rows_none = (or-none (rows_fault rows) _ k.1).0;
    }

pub record IsKept (x : Known) : Type 0 where
  pub long : 16 ≤ length (bytes_at 3 x)
  pub short : length (bytes_at 3 x) ≤ 48
  pub pin : length (bytes_at 4 x) ≡ 32
  pub left : (1 ≤ u32_at 5 x) × (u32_at 5 x ≤ 255)

-- ---- the ranges of the values

sound-from : (margin : ℕ) (bytes : List ℕ) → AreVoters bytes → 2 * margin + 1 ≤ length (ids_in bytes) → IsSound (record { margin = margin; voters = ids_in bytes })
sound-from margin bytes are enough = record {
  at_most = omega (arith, length-ids_in bytes, are.few);
  enough = enough;
  ids = ids-from 0 (ids_in bytes) are.rising;
  in_order = increasing-from 0 (ids_in bytes) are.rising;
}

body-in_range : (place : ℕ) (x : Known) → kind_fault place (u32_at 2 x) x ≡ None → IsBodyInRange (body_of x)
body-in_range place x none =
    elim (cases_eq (u32_at 2 x) 0) [
      | inl noop ↦ subst IsBodyInRange (sym (cond-true (eqb (u32_at 2 x) 0) _ _ (eq-eqb (u32_at 2 x) 0 noop))) tt
      | inr not_0 ↦
          elim (cases_eq (u32_at 2 x) 1) [
            | inl ask ↦ subst IsBodyInRange (sym (cond-false (eqb (u32_at 2 x) 0) _ _ (ne_eqb (u32_at 2 x) 0 not_0) ∙ cond-true (eqb (u32_at 2 x) 1) _ _ (eq-eqb (u32_at 2 x) 1 ask))) (ask-canonical place x (kind-ask place (u32_at 2 x) x ask none))
            | inr not_1 ↦
                let m = kind-members place (u32_at 2 x) x not_0 not_1 none in
                subst IsBodyInRange (sym (cond-false (eqb (u32_at 2 x) 0) _ _ (ne_eqb (u32_at 2 x) 0 not_0) ∙ cond-false (eqb (u32_at 2 x) 1) _ _ (ne_eqb (u32_at 2 x) 1 not_1)))
                (sound-from (u32_at 7 x) (bytes_at 6 x) (members-voters x m.1) (members-margin x m.1).1)
          ]
    ]

entries-in_range : (place : ℕ) (entries : List Known) → entries_fault place entries ≡ None → AllByRecursion IsEntryInRange (map entry_of entries)
entries-in_range place [] none = tt
entries-in_range place (x ∷ entries) none =
    let a = or-none (entry_fault place x) (entries_fault (place + 1) entries) none in
    let b = or-none (index_rule 1 x) _ a.0 in
    ((at_most-none 1 TOP (u64_at 1 x) b.0, body-in_range place x (or-none (kind_fault place (u32_at 2 x) x) _ b.1).0), entries-in_range (place + 1) entries a.1)

kept-in_range : (secret : List ℕ) (x : Known) → kept_fault secret x ≡ None → IsKeptInRange (kept_with secret x)
kept-in_range [] x none = tt
kept-in_range (b ∷ bytes) x none =
    let p = or-none _ _ none in
    let q = or-none _ _ p.1 in
    let size = and_parts (nat_le 16 (length (b ∷ bytes))) (nat_le (length (b ∷ bytes)) 48) (rule-none _ _ p.0) in
    ((leb-true 16 (length (b ∷ bytes)) size.0, leb-true (length (b ∷ bytes)) 48 size.1), from_1_to-none 5 255 (u32_at 5 x) (or-none _ _ q.1).0)

pub kept-pin : (secret : List ℕ) (x : Known) → 0 < length secret → kept_fault secret x ≡ None → length (bytes_at 4 x) ≡ 32
kept-pin [] x some none = absurd (omega arith)
kept-pin (b ∷ bytes) x some none = size-none 4 32 (bytes_at 4 x) (or-none _ _ (or-none _ _ none).1).0

rows-in_range : (rows : List Known) → rows_fault rows ≡ None → AllByRecursion IsRowInRange (map row_of rows)
rows-in_range [] none = tt
rows-in_range (x ∷ rows) none =
    let a = or-none (row_fault x) (rows_fault rows) none in
    let b = or-none _ _ a.0 in
    (kept-in_range (bytes_at 3 x) x (or-none (kept_fault (bytes_at 3 x) x) _ b.1).0, rows-in_range rows a.1)

append-in_range : (term : ℕ) (x : Known) (entries : List Known) → IsAppend x entries → IsMemberInRange (message_of term 4 x entries)
append-in_range term x entries a = record {
  end = omega (arith, a.end, length-map entries entry_of);
  few = omega (arith, a.few, length-map entries entry_of);
  entries = All-from_recursion IsEntryInRange (map entry_of entries) (entries-in_range 0 entries a.entries_none);
  promise = a.promise;
  commit = a.commit;
}

part-in_range : (term : ℕ) (x : Known) (rows : List Known) → IsPart x rows → IsMemberInRange (message_of term 7 x rows)
part-in_range term x rows p = record {
  index = p.point.index;
  last_term = p.last_term;
  conf_index = p.conf_index;
  conf = sound-from (u32_at 5 x) (bytes_at 6 x) p.voters p.enough;
  limit_from = p.limit.0;
  limit_to = p.limit.1;
  part = p.part;
  parts = p.parts;
  few = omega (arith, p.few, length-map rows row_of);
  rows = All-from_recursion IsRowInRange (map row_of rows) (rows-in_range rows p.rows_none);
}

-- a member's number is one of seven
by_number : (P : ℕ → Type 0) → P 2 → P 3 → P 4 → P 5 → P 6 → P 7 → P 8 → (number : ℕ) → 2 ≤ number → number ≤ 8 → P number
by_number P p2 p3 p4 p5 p6 p7 p8 number low high =
    let up : (n : ℕ) → P n → (number ≢ n → P number) → P number = λ n p rest. elim (cases_eq number n) [ inl is ↦ subst P (sym is) p | inr other ↦ rest other ] in
    up 2 p2 (λ a. up 3 p3 (λ b. up 4 p4 (λ c. up 5 p5 (λ d. up 6 p6 (λ e. up 7 p7 (λ f. up 8 p8 (λ g. absurd (omega (arith, a, b, c, d, e, f, g)))))))))

member-in_range : (term : ℕ) (x : Known) (listed : List Known) (number : ℕ) → 2 ≤ number → number ≤ 8 → fields_fault number x listed ≡ None → IsMemberInRange (message_of term number x listed)
member-in_range term x listed = by_number (λ number. fields_fault number x listed ≡ None → IsMemberInRange (message_of term number x listed))
    (λ is. let a = or-none (index_rule 1 x) _ is in (at_most-none 1 TOP (u64_at 1 x) a.0, at_most-none 2 TOP (u64_at 2 x) (or-none _ _ a.1).0))
    (λ is. tt)
    (λ is. append-in_range term x listed (append-none x listed is))
    (λ is. let a = or-none (point_fault x) _ is in ((point-none x a.0).index, at_most-none 3 TOP (u64_at 3 x) (or-none _ _ a.1).0))
    (λ is. let a = or-none (index_rule 1 x) _ is in (at_most-none 1 TOP (u64_at 1 x) a.0, at_most-none 2 TOP (u64_at 2 x) (or-none _ _ a.1).0))
    (λ is. part-in_range term x listed (part-none x listed is))
    (λ is. (point-none x is).index)

pub message-in_range : (term number : ℕ) (x : Known) (listed : List Known) → 2 ≤ number → number ≤ 8 → range_fault term number x listed ≡ None → IsInRange (message_of term number x listed)
message-in_range term number x listed low high is =
    let a = or-none (at_most 1 TOP term) (fields_fault number x listed) is in
    (subst IsIndex (sym (terms number low high)) (at_most-none 1 TOP term a.0), member-in_range term x listed number low high a.1)
  where
    terms : (number : ℕ) → 2 ≤ number → number ≤ 8 → term_of (message_of term number x listed) ≡ term
    terms = by_number (λ number. term_of (message_of term number x listed) ≡ term) refl refl refl refl refl refl refl

-- ---- what was kept of a list is all of it

none_pass : {X : Type 0} (xs : List X) → filter (λ _. false) xs ≡ []
none_pass [] = refl
none_pass (x ∷ xs) = none_pass xs

listed_in-other : (number : ℕ) (fs : List Field) → number ≢ 4 → number ≢ 7 → listed_in number fs ≡ []
listed_in-other number fs not_4 not_7 =
    ap (λ (b : Bool). map (λ f. (embedded f).fields) (filter (λ (f : Field). cond b (eqb f.number 3 && is_some (block_in f.content)) (cond (eqb number 7) (eqb f.number 10 && is_some (block_in f.content)) false)) fs)) (ne_eqb number 4 not_4)
    ∙ ap (λ (b : Bool). map (λ f. (embedded f).fields) (filter (λ (f : Field). cond b (eqb f.number 10 && is_some (block_in f.content)) false) fs)) (ne_eqb number 7 not_7)
    ∙ ap (map (λ f. (embedded f).fields)) (none_pass fs)

few-listed : (number : ℕ) (fs : List Field) (x : Known) → fields_fault number x (map known_of (listed_in number fs)) ≡ None → length (map known_of (listed_in number fs)) ≤ ROWS_PER_PART
few-listed number fs x none =
    elim (cases_eq number 4) [
      | inl four ↦ omega (arith, (append-none x (map known_of (listed_in number fs)) (ap (λ (n : ℕ). fields_fault n x (map known_of (listed_in number fs))) (sym four) ∙ none)).few)
      | inr not_4 ↦
          elim (cases_eq number 7) [
            | inl seven ↦ (part-none x (map known_of (listed_in number fs)) (ap (λ (n : ℕ). fields_fault n x (map known_of (listed_in number fs))) (sym seven) ∙ none)).few
            | inr not_7 ↦ omega (arith, ap (λ (ls : List (List Field)). length (map known_of ls)) (listed_in-other number fs not_4 not_7))
          ]
    ]

pub kept-whole : (member : Member) (fs : List Field) → member.listed.lost ≡ false → IsOf member fs → fields_fault member.number (known_of fs) (map known_of (listed_in member.number fs)) ≡ None → map seen member.listed.first.items ≡ map known_of (listed_in member.number fs)
kept-whole member fs whole of none = of.listed.first whole ∙ take_all ROWS_PER_PART (map known_of (listed_in member.number fs)) (few-listed member.number fs (known_of fs) none)

-- ---- the member that stands last

pub last-of : (member : Member) (last : Option (ℕ × List Field)) → member.number ≢ 0 → IsLast member last → (fs : List Field) × IsOf member fs × (last ≡ Some (member.number, fs))
last-of member None some is = absurd (some is)
last-of member (Some (number, fs)) some (is, of) = (fs, of, ap (λ (n : ℕ). Some (n, fs)) (sym is))

pub none-last : (member : Member) (last : Option (ℕ × List Field)) → member.number ≡ 0 → IsLast member last → last ≡ None
none-last member None zero is = refl
none-last member (Some (number, fs)) zero (is, of) = absurd (omega (arith, zero, of.low))

-- ---- what is read

some_is : {X : Type 0} {x y : X} → Some x ≡ Some y → x ≡ y
some_is e = cc

-- a fault of the rules is what is read
pub reads-fault : (e : PeerFault) (fault : Option PeerFault) (msg : PeerMsg) → (fault ≡ Some faults.Memory → ⊥) → Some e ≡ fault → ReadsPeer (Err e) (unless_broken fault msg)
reads-fault e None msg other is = absurd cc
reads-fault faults.Memory (Some f) msg other is = absurd (other (sym is))
reads-fault (faults.Wire w) (Some f) msg other is = ap Err (sym (some_is is))
reads-fault faults.Nothing (Some f) msg other is = ap Err (sym (some_is is))
reads-fault (faults.Range n) (Some f) msg other is = ap Err (sym (some_is is))
reads-fault (faults.Size n m) (Some f) msg other is = ap Err (sym (some_is is))
reads-fault (faults.NotCanonical n) (Some f) msg other is = ap Err (sym (some_is is))

pub reads-whole : (result : Result PeerMsg PeerFault) (fault : Option WireFault) (term number : ℕ) (last : Option (ℕ × List Field)) (fs : List Field) → fault ≡ None → last ≡ Some (number, fs)
    → ReadsPeer result (checked term number (known_of fs) (map known_of (listed_in number fs))) → ReadsPeer result (peer_in fault term last)
reads-whole result fault term number last fs whole is reads =
    subst (ReadsPeer result) (sym (ap (λ (f : Option WireFault). peer_in f term last) whole ∙ ap (peer_in None term) is)) reads
