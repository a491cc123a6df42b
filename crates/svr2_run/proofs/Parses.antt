-- What a parse of words says.
use Rattle.std.proofs.Common.{refl, sym, ap, subst, ◌∙◌, ◌≡◌, ◌≢◌, ℕ, List, [], ◌∷◌, map, true, false, Option, Some, None, Result, Ok, Err, IfOk, OnOk, inl, inr, codes}
use Rattle.std.specs.Prelude.{option_map, option_and_then}
use Rattle.clap.specs.Words.{App, HasKind, HasMatchesOf, Kinds, Row, fault_of, first_of, first_value, found_of, is_simple, is_simple_and_free, kind_of, matches_of}
use Rattle.clap.specs.declared.error.Error.{Error}
use Rattle.clap.specs.declared.error.kind.ErrorKind.TheVariants.{OutOfMemory}
use Rattle.clap.specs.declared.parser.matches.ArgMatches.{ArgMatches}
use Rattle.clap.proofs.WalkLemmas.{first_value-rows}
use Rattle.std.proofs.lemmas.Bool.{cases_Bool}
use Rattle.std.proofs.lemmas.Slice.Eq.{bytes_eq-Decides}
use Rattle.std.specs.Prelude.{bytes_eq, slice_get}
use Rattle.svr2_run.specs.Words.{command_of, if_taken, key_of, limit_of, matched, table_app, table_of, tagged_app, tagged_of}
use Rattle.svr2_run.specs.declared.words.Command.TheVariants.{Play, Tagged}
use Rattle.svr2_run.specs.declared.words.Play.TheVariants.{Table}

-- ---- words that are refused

untaken : (kinds : Kinds) (e : Error) (rows : List Row) → HasKind kinds e → kind_of e ≢ OutOfMemory → if_taken kinds rows ≡ None
untaken [] e rows (inl memory) ne = absurd (ne memory)
untaken [] e rows (inr among) ne = absurd among
untaken (kind ∷ kinds) e rows h ne = refl

pub refused : {X E : Type 0} (app want : App) (words : List (List ℕ)) (e : Error) (result : Result (Option X) E) (f : Option (List Row) → Option X) → app ≡ want → is_simple_and_free want ≡ true
    → (is_simple_and_free app ≡ true → HasKind (fault_of app words) e) → f None ≡ None → IfOk result (λ value. value ≡ None) → OnOk result (kind_of e ≢ OutOfMemory)
    → IfOk result (λ value. value ≡ f (matched want words))
refused app want words e (Err x) f is simple fails empty said kind = tt
refused app want words e (Ok command) f is simple fails empty said kind =
    let has : HasKind (fault_of want words) e = subst (λ (a : App). HasKind (fault_of a words) e) is (fails (ap is_simple_and_free is ∙ simple)) in
    said ∙ sym (ap f (untaken (fault_of want words) e (matches_of want words) has kind) ∙ empty)

-- the same, where the value stands for another
pub refused_as : {X Y E : Type 0} (g : X → Y) (app want : App) (words : List (List ℕ)) (e : Error) (result : Result (Option X) E) (f : Option (List Row) → Option Y) → app ≡ want → is_simple_and_free want ≡ true
    → (is_simple_and_free app ≡ true → HasKind (fault_of app words) e) → f None ≡ None → IfOk result (λ value. value ≡ None) → OnOk result (kind_of e ≢ OutOfMemory)
    → IfOk result (λ value. option_map g value ≡ f (matched want words))
refused_as g app want words e (Err x) f is simple fails empty said kind = tt
refused_as g app want words e (Ok value) f is simple fails empty said kind =
    let has : HasKind (fault_of want words) e = subst (λ (a : App). HasKind (fault_of a words) e) is (fails (ap is_simple_and_free is ∙ simple)) in
    ap (option_map g) said ∙ sym (ap f (untaken (fault_of want words) e (matches_of want words) has kind) ∙ empty)

-- ---- words that are taken

pub taken : (app want : App) (words : List (List ℕ)) → app ≡ want → is_simple_and_free want ≡ true → (is_simple_and_free app ≡ true → fault_of app words ≡ []) → matched want words ≡ Some (matches_of want words)
taken app want words is simple passes = ap (λ (kinds : Kinds). if_taken kinds (matches_of want words)) (sym (ap (λ (a : App). fault_of a words) is) ∙ passes (ap is_simple_and_free is ∙ simple))

-- the value of an option
pub value_is : (app want : App) (words : List (List ℕ)) (m : ArgMatches) (id : List ℕ) → app ≡ want → is_simple want ≡ true → HasMatchesOf app words m → first_value (found_of m) id ≡ first_of id (matches_of want words)
value_is app want words m id is simple has =
    first_value-rows (found_of m) id ∙ ap (first_of id) ((has (ap is_simple is ∙ simple)).0 ∙ ap (λ (a : App). matches_of a words) is)

pub table_is : (words : List (List ℕ)) (limit o : Option ℕ) → matched table_app words ≡ Some (matches_of table_app words) → limit ≡ limit_of (first_of (codes "rows") (matches_of table_app words))
    → limit ≡ o → option_map (λ limit. Play (Table limit)) o ≡ table_of words
table_is words limit o is value says = rw (is, ← value, says) refl

pub tagged_is : (words : List (List ℕ)) (key o : Option (List ℕ)) → matched tagged_app words ≡ Some (matches_of tagged_app words) → key ≡ key_of (first_of (codes "key") (matches_of tagged_app words))
    → key ≡ o → option_map Tagged o ≡ tagged_of words
tagged_is words key o is value says = rw (is, ← value, says) refl

-- what the value of the option says, where the words are taken
pub option_says : {X : Type 0} (app : App) (words : List (List ℕ)) (id : List ℕ) (f : Option (List ℕ) → Option X) (value : Option (List ℕ)) (x : Option X) → matched app words ≡ Some (matches_of app words)
    → value ≡ first_of id (matches_of app words) → x ≡ f value → x ≡ option_and_then (λ rows. f (first_of id rows)) (matched app words)
option_says app words id f value x is same says = rw (is, ← same, says) refl

-- the same of two options
pub options_say : {X : Type 0} (app : App) (words : List (List ℕ)) (a b : List ℕ) (f : Option (List ℕ) → Option (List ℕ) → Option X) (u v : Option (List ℕ)) (x : Option X) → matched app words ≡ Some (matches_of app words)
    → u ≡ first_of a (matches_of app words) → v ≡ first_of b (matches_of app words) → x ≡ f u v
    → x ≡ option_and_then (λ rows. f (first_of a rows) (first_of b rows)) (matched app words)
options_say app words a b f u v x is first second says = rw (is, ← first, ← second, says) refl

-- ---- another word than a command's name

pub differs : (xs ys : List ℕ) → (xs ≡ ys → ⊥) → bytes_eq xs ys ≡ false
differs xs ys ne = elim (cases_Bool (bytes_eq xs ys)) [ inl y ↦ absurd (ne ((bytes_eq-Decides xs ys).0 y)) | inr n ↦ n ]

-- the word is the name of no command
abbrev pub IsNoName : List ℕ → Type 0
IsNoName name = (name ≡ codes "replay" → ⊥) × (name ≡ codes "drive" → ⊥) × (name ≡ codes "table" → ⊥) × (name ≡ codes "serve" → ⊥) × (name ≡ codes "tagged" → ⊥) × (name ≡ codes "audit" → ⊥) × (name ≡ codes "group" → ⊥) × (name ≡ codes "drill" → ⊥)

no_name : (name : List ℕ) (rest : List (List ℕ)) → IsNoName name → None ≡ command_of (name ∷ rest)
no_name name rest (a, v, b, s, t, d, g, l) = rw (differs name (codes "replay") a, differs name (codes "drive") v, differs name (codes "table") b, differs name (codes "serve") s, differs name (codes "tagged") t, differs name (codes "audit") d, differs name (codes "group") g, differs name (codes "drill") l) refl

pub no_command : {X : Type 0} (bytes : X → List ℕ) (words : List X) (x : X) → slice_get words 0 ≡ Some x → IsNoName (bytes x) → None ≡ command_of (map bytes words)
no_command bytes [] x is none = cc
no_command bytes (w ∷ words) x is none = let same : w ≡ x = cc is in rw same (no_name (bytes x) (map bytes words) none)
