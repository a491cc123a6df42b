-- The cores in a map by the ids of their clients.
use Rattle.std.proofs.Common.{refl, sym, ap, subst, Ordering, ◌∙◌, ◌≡◌, ℕ, suc, ◌+◌, arith, cond, Bool, true, false, is_some, List, [], ◌∷◌, length, map, find, Option, Some, None, option_map, unwrap_or, Result, Ok, Err, OnOk, OnErr, IfErr, inl, inr, Bor}
use Rattle.std.proofs.lemmas.Bool.{cases_Bool}
use Rattle.std.proofs.lemmas.Map.Steps.{set_value_same}
use Rattle.std.proofs.lemmas.Map.Text.{is_eq-slice_cmp}
use Rattle.std.proofs.lemmas.Slice.Eq.{bytes_eq-Decides}
use Rattle.std.specs.BTreeMap.{BTreeMap, get, get_by, is_at, UpdatesBy, WritesThrough}
use Rattle.std.specs.Cmp.Lexicographic.{slice_cmp}
use Rattle.std.specs.Map.{lookup, set_value}
use Rattle.std.specs.Option.{option_copied}
use Rattle.std.specs.Ordering.{nat_cmp}
use Rattle.std.specs.Prelude.{bytes_eq}
use Rattle.values.specs.declared.ids.ClientId.{ClientId}
use Rattle.values.specs.declared.message.Answer.{Answer}
use Rattle.values.specs.declared.want.Report.{Report}
use Rattle.values.specs.declared.want.Want.{Want}
use Rattle.values.specs.declared.want.WantFault.{WantFault}
use Rattle.schedule_model.specs.Client.{Core, heard, new_core, wanted}
use Rattle.group_model.specs.Group.{core_of, is_client, put_core}
use Rattle.group_model.proofs.Cores.{same_client}
use Rattle.group_world.specs.Cores.{Cores, HearsAnswer, PutsCore, TakesWant}

-- an entry of the map, as its client's core
abbrev pub seen : ClientId × (ClientId × Core) → ClientId × Core
seen e = (e.0, e.1.1)

abbrev pub seen_all : List (ClientId × (ClientId × Core)) → Cores
seen_all es = map seen es

-- ---- clients are told apart by their bytes

bytes_turned : (xs ys : List ℕ) → bytes_eq xs ys ≡ bytes_eq ys xs
bytes_turned xs ys = elim (cases_Bool (bytes_eq xs ys)) [
  | inl hit ↦ subst (λ (zs : List ℕ). bytes_eq xs zs ≡ bytes_eq zs xs) ((bytes_eq-Decides xs ys).0 hit) refl
  | inr miss ↦ elim (cases_Bool (bytes_eq ys xs)) [
    | inl hit ↦ subst (λ (zs : List ℕ). bytes_eq zs ys ≡ bytes_eq ys zs) ((bytes_eq-Decides ys xs).0 hit) refl
    | inr still ↦ miss ∙ sym still
  ]
]

-- ---- a core is put in

core_of_at : (x : ClientId × Core) (xs : Cores) (d : ClientId) → core_of (x ∷ xs) d ≡ cond (is_client x.0 d) (Some x.1) (core_of xs d)
core_of_at x xs d = by (is_client x.0 d)
  where
    by : (b : Bool) → option_map (λ (y : ClientId × Core). y.1) (cond b (Some x) (find (λ (y : ClientId × Core). is_client y.0 d) xs)) ≡ cond b (Some x.1) (core_of xs d)
    by true = refl
    by false = refl

put_at_head : (x : ClientId × Core) (xs : Cores) (c : ClientId) (core : Core) (d : ClientId) → is_client x.0 c ≡ true
    → cond (is_client c d) (Some core) (core_of xs d) ≡ cond (is_client c d) (Some core) (core_of (x ∷ xs) d)
put_at_head x xs c core d same = elim (cases_Bool (is_client c d)) [
  | inl hit ↦ rw hit refl
  | inr miss ↦ rw miss (sym (core_of_at x xs d ∙ ap (λ (b : Bool). cond b (Some x.1) (core_of xs d)) (ap (λ (y : ClientId). is_client y d) (same_client x.0 c same) ∙ miss)))
]

put_behind : (x : ClientId × Core) (xs : Cores) (c : ClientId) (core : Core) (d : ClientId) → is_client x.0 c ≡ false
    → cond (is_client x.0 d) (Some x.1) (cond (is_client c d) (Some core) (core_of xs d)) ≡ cond (is_client c d) (Some core) (core_of (x ∷ xs) d)
put_behind x xs c core d apart = elim (cases_Bool (is_client c d)) [
  | inl hit ↦ let not_x : is_client x.0 d ≡ false = subst (λ (y : ClientId). is_client x.0 y ≡ false) (same_client c d hit) apart in rw (hit, not_x) refl
  | inr miss ↦ rw miss (sym (core_of_at x xs d))
]

pub core_of_put : (xs : Cores) (c : ClientId) (core : Core) (d : ClientId) → core_of (put_core xs c core) d ≡ cond (is_client c d) (Some core) (core_of xs d)
core_of_put [] c core d = core_of_at (c, core) [] d
core_of_put (x ∷ xs) c core d = elim (cases_Bool (is_client x.0 c)) [
  | inl same ↦ ap (λ (b : Bool). core_of (cond b ((c, core) ∷ xs) (x ∷ put_core xs c core)) d) same ∙ core_of_at (c, core) xs d ∙ put_at_head x xs c core d same
  | inr apart ↦ ap (λ (b : Bool). core_of (cond b ((c, core) ∷ xs) (x ∷ put_core xs c core)) d) apart ∙ core_of_at x (put_core xs c core) d
      ∙ ap (cond (is_client x.0 d) (Some x.1)) (core_of_put xs c core d) ∙ put_behind x xs c core d apart
]

-- one more, where the client has none
abbrev more : Option Core → ℕ
more o = cond (is_some o) 0 1

pub length_put : (xs : Cores) (c : ClientId) (core : Core) → length (put_core xs c core) ≡ length xs + more (core_of xs c)
length_put [] c core = refl
length_put (x ∷ xs) c core = elim (cases_Bool (is_client x.0 c)) [
  | inl same ↦ rw (core_of_at x xs c, same) (omega arith)
  | inr apart ↦ let e = length_put xs c core in rw (core_of_at x xs c, apart) (omega (arith, e))
]

-- cores that are found alike stay so
pub puts_alike : (xs ys : Cores) (c : ClientId) (core : Core) → ((d : ClientId) → core_of xs d ≡ core_of ys d) → (d : ClientId) → core_of (put_core xs c core) d ≡ core_of (put_core ys c core) d
puts_alike xs ys c core alike d = core_of_put xs c core d ∙ ap (cond (is_client c d) (Some core)) (alike d) ∙ sym (core_of_put ys c core d)

pub puts_as_many : (xs ys : Cores) (c : ClientId) (core : Core) → ((d : ClientId) → core_of xs d ≡ core_of ys d) → length xs ≡ length ys → length (put_core xs c core) ≡ length (put_core ys c core)
puts_as_many xs ys c core alike as_many = rw (length_put xs c core, length_put ys c core, alike c, as_many) refl

-- ---- the map

abbrev pub by_bytes : ClientId → ClientId → Ordering
by_bytes a b = slice_cmp nat_cmp a.0 b.0

at_client : (c k : ClientId) → is_at (by_bytes c) k ≡ is_client c k
at_client c k = is_eq-slice_cmp c.0 k.0

pub core_of_seen : (es : List (ClientId × (ClientId × Core))) (c : ClientId) → core_of (seen_all es) c ≡ option_map (λ (x : ClientId × Core). x.1) (lookup (is_at (by_bytes c)) es)
core_of_seen [] c = refl
core_of_seen (e ∷ es) c =
    core_of_at (seen e) (seen_all es) c ∙ ap (cond (is_client e.0 c) (Some e.1.1)) (core_of_seen es c) ∙ rw (at_client c e.0, bytes_turned c.0 e.0.0) (by (is_client e.0 c))
  where
    by : (b : Bool) → cond b (Some e.1.1) (option_map (λ (x : ClientId × Core). x.1) (lookup (is_at (by_bytes c)) es)) ≡ option_map (λ (x : ClientId × Core). x.1) (cond b (Some e.1) (lookup (is_at (by_bytes c)) es))
    by true = refl
    by false = refl

length_seen : (es : List (ClientId × (ClientId × Core))) → length (seen_all es) ≡ length es
length_seen [] = refl
length_seen (e ∷ es) = ap suc (length_seen es)

is_some_mapped : {A B : Type 0} (f : A → B) (o : Option A) → is_some (option_map f o) ≡ is_some o
is_some_mapped f None = refl
is_some_mapped f (Some a) = refl

module _ (m n : BTreeMap ClientId (ClientId × Core)) (c : ClientId) where
  found_core : (known : ClientId × Core) → get_by (by_bytes c) m ≡ Some known → core_of (seen_all m.entries) c ≡ Some known.1
  found_core known is = core_of_seen m.entries c ∙ ap (option_map (λ (x : ClientId × Core). x.1)) is

  pub gives_core : (r : Option (Bor (ClientId × Core))) → option_copied r ≡ get_by (by_bytes c) m → option_map (λ (x : Bor (ClientId × Core)). x.now.1) r ≡ core_of (seen_all m.entries) c
  gives_core r is = copied r ∙ ap (option_map (λ (x : ClientId × Core). x.1)) is ∙ sym (core_of_seen m.entries c)
    where
      copied : (r : Option (Bor (ClientId × Core))) → option_map (λ (x : Bor (ClientId × Core)). x.now.1) r ≡ option_map (λ (x : ClientId × Core). x.1) (option_copied r)
      copied None = refl
      copied (Some b) = refl

  pub no_core : get_by (by_bytes c) m ≡ None → n ≡ m → core_of (seen_all n.entries) c ≡ None
  no_core is same = ap (λ (x : BTreeMap ClientId (ClientId × Core)). core_of (seen_all x.entries) c) same ∙ core_of_seen m.entries c ∙ ap (option_map (λ (x : ClientId × Core). x.1)) is

  pub puts_in : (v : ClientId × Core) → UpdatesBy by_bytes (by_bytes c) m n (Some v) → length n.entries ≡ length m.entries + more (core_of (seen_all m.entries) c)
      → PutsCore (seen_all m.entries) c v.1 (seen_all n.entries)
  puts_in v updates count = record {
    cores = λ d. core_of_seen n.entries d ∙ ap (option_map (λ (x : ClientId × Core). x.1)) (updates.0 d) ∙ rw (at_client c d, core_of_put (seen_all m.entries) c v.1 d, core_of_seen m.entries d) (by (is_client c d) (get by_bytes m d));
    count = length_seen n.entries ∙ count ∙ sym (length_put (seen_all m.entries) c v.1 ∙ ap (λ (k : ℕ). k + more (core_of (seen_all m.entries) c)) (length_seen m.entries));
  }
    where
      by : (b : Bool) (o : Option (ClientId × Core)) → option_map (λ (x : ClientId × Core). x.1) (cond b (Some v) o) ≡ cond b (Some v.1) (option_map (λ (x : ClientId × Core). x.1) o)
      by true o = refl
      by false o = refl

  pub first_wants : (w : Want) (first : ClientId × Core) (old : Option (ClientId × Core)) → core_of (seen_all m.entries) c ≡ None → wanted new_core w ≡ Ok first.1 → UpdatesBy by_bytes (by_bytes c) m n (Some first)
      → old ≡ get by_bytes m c → length n.entries ≡ length m.entries + cond (is_some old) 0 1 → TakesWant {T = Unit {0}} (seen_all m.entries) c w (seen_all n.entries) (Ok (Ok tt))
  first_wants w first old none taken updates was count = (
    first.1,
    ap (λ (o : Option Core). wanted (unwrap_or o new_core) w) none ∙ taken,
    puts_in first updates
        (
        count ∙ ap (λ (o : Option (ClientId × Core)). length m.entries + cond (is_some o) 0 1) was
        ∙ sym (ap (λ (b : Bool). length m.entries + cond b 0 1) (ap is_some (core_of_seen m.entries c) ∙ is_some_mapped (λ (x : ClientId × Core). x.1) (get by_bytes m c)))
        ),
  )

  module _ (known after : ClientId × Core) (is : get_by (by_bytes c) m ≡ Some known) (written : WritesThrough by_bytes (by_bytes c) m after n) where
    puts_known : PutsCore (seen_all m.entries) c after.1 (seen_all n.entries)
    puts_known = puts_in after (written.3 (rw is refl)) (subst (λ (o : Option Core). length n.entries ≡ length m.entries + more o) (sym (found_core known is)) (let e = written.2 in omega (arith, e)))

    unwritten : after ≡ known → seen_all n.entries ≡ seen_all m.entries
    unwritten same = ap seen_all (written.0 ∙ ap (set_value (is_at (by_bytes c)) m.entries) same ∙ set_value_same (is_at (by_bytes c)) m.entries known is)

    pub known_wants : (w : Want) (r : Result (Unit {0}) WantFault) → OnOk r (wanted known.1 w ≡ Ok after.1) → IfErr r (λ fault. wanted known.1 w ≡ Err fault) → OnErr r (after ≡ known)
        → TakesWant (seen_all m.entries) c w (seen_all n.entries) (Ok r)
    known_wants w (Ok done) taken fault same = (after.1, ap (λ (o : Option Core). wanted (unwrap_or o new_core) w) (found_core known is) ∙ taken, puts_known)
    known_wants w (Err e) taken fault same = (ap (λ (o : Option Core). wanted (unwrap_or o new_core) w) (found_core known is) ∙ fault, unwritten same)

    pub known_hears : (number : ℕ) (a : Answer) (r : Option Report) → after.1 ≡ (heard known.1 number a).0 → r ≡ (heard known.1 number a).1
        → HearsAnswer (seen_all m.entries) c number a (seen_all n.entries) r
    known_hears number a r core report = rw (found_core known is) (report, subst (λ (x : Core). PutsCore (seen_all m.entries) c x (seen_all n.entries)) core puts_known)

  pub unknown_hears : (number : ℕ) (a : Answer) (r : Option Report) → get_by (by_bytes c) m ≡ None → n ≡ m → r ≡ None → HearsAnswer (seen_all m.entries) c number a (seen_all n.entries) r
  unknown_hears number a r is same none = rw (core_of_seen m.entries c, is) (none, ap (λ (x : BTreeMap ClientId (ClientId × Core)). seen_all x.entries) same)
