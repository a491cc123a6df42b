-- A core that was put is found, and every other is found as before.
use Rattle.std.proofs.Common.{◌≡◌, Bool, true, false, Some, None, List, [], ◌∷◌, refl, sym, ap, subst, ◌∙◌}
use Rattle.std.specs.Prelude.{find, option_map, if◌then◌else◌}
use Rattle.std.proofs.lemmas.Bool.{cond-true, cond-false}
use Rattle.std.proofs.lemmas.Slice.Eq.{bytes_eq-Decides}
use Rattle.values.specs.declared.ids.ClientId.{ClientId}
use Rattle.schedule_model.specs.Client.{Core}
use Rattle.group_model.specs.Group.{core_of, put_core, is_client}

pub same_client : (a b : ClientId) → is_client a b ≡ true → a ≡ b
same_client a b h = let bytes : a.0 ≡ b.0 = (bytes_eq-Decides a.0 b.0).0 h in ap (λ bs. record { 0 = bs }) bytes

pub client_self : (a : ClientId) → is_client a a ≡ true
client_self a = (bytes_eq-Decides a.0 a.0).1 refl

pub core_of-put_same : (cores : List (ClientId × Core)) (c : ClientId) (core : Core) → core_of (put_core cores c core) c ≡ Some core
core_of-put_same [] c core = ap (option_map (λ (x : ClientId × Core). x.1)) (cond-true (is_client c c) (Some (c, core)) None (client_self c))
core_of-put_same (x ∷ xs) c core = by_head (is_client x.0 c) refl (core_of-put_same xs c core)
  where
    by_head : (b : Bool) → is_client x.0 c ≡ b → core_of (put_core xs c core) c ≡ Some core → core_of (if b then (c, core) ∷ xs else x ∷ put_core xs c core) c ≡ Some core
    by_head true is rest = ap (option_map (λ (x : ClientId × Core). x.1)) (cond-true (is_client c c) (Some (c, core)) (find (λ x. is_client x.0 c) xs) (client_self c))
    by_head false is rest = ap (option_map (λ (x : ClientId × Core). x.1)) (cond-false (is_client x.0 c) (Some x) (find (λ x. is_client x.0 c) (put_core xs c core)) is) ∙ rest

pub core_of-put_other : (cores : List (ClientId × Core)) (d c : ClientId) (core : Core) → is_client d c ≡ false → core_of (put_core cores d core) c ≡ core_of cores c
core_of-put_other [] d c core other = ap (option_map (λ (x : ClientId × Core). x.1)) (cond-false (is_client d c) (Some (d, core)) None other)
core_of-put_other (x ∷ xs) d c core other = by_head (is_client x.0 d) refl (by_rest (is_client x.0 c) refl (core_of-put_other xs d c core other))
  where
    by_rest : (b : Bool) → is_client x.0 c ≡ b → core_of (put_core xs d core) c ≡ core_of xs c → option_map (λ (x : ClientId × Core). x.1) (if b then Some x else find (λ x. is_client x.0 c) (put_core xs d core)) ≡ option_map (λ (x : ClientId × Core). x.1) (if b then Some x else find (λ x. is_client x.0 c) xs)
    by_rest true is rest = refl
    by_rest false is rest = rest

    by_head : (b : Bool) → is_client x.0 d ≡ b → core_of (x ∷ put_core xs d core) c ≡ core_of (x ∷ xs) c → core_of (if b then (d, core) ∷ xs else x ∷ put_core xs d core) c ≡ core_of (x ∷ xs) c
    by_head true is rest =
        ap (option_map (λ (x : ClientId × Core). x.1)) (cond-false (is_client d c) (Some (d, core)) (find (λ x. is_client x.0 c) xs) other
        ∙ sym (cond-false (is_client x.0 c) (Some x) (find (λ x. is_client x.0 c) xs) (subst (λ y. is_client y c ≡ false) (sym (same_client x.0 d is)) other)))
    by_head false is rest = rest
