-- The order of clients is total, and only one client ties with each.
use Rattle.std.proofs.Common.{◌≡◌, true, refl, ap, ◌∙◌}
use Rattle.std.specs.declared.cmp.Ordering.{Ordering}
use Rattle.std.specs.declared.cmp.Ordering.TheVariants.{Less, Equal, Greater}
use Rattle.std.specs.Ordering.{ordering_reverse, is_eq}
use Rattle.std.specs.Cmp.{IsTotalOrder}
use Rattle.std.specs.Cmp.Lexicographic.{nat_list_cmp_total}
use Rattle.std.specs.FinMap.{slice_cmp-IsAntisymmetric, nat_cmp-IsAntisymmetric}
use Rattle.values.specs.declared.ids.ClientId.{ClientId}
use Rattle.record_rules.specs.Clients.{client_cmp, client_eq}

pub client_total : IsTotalOrder client_cmp
client_total = record {
  antisymm = λ a b. nat_list_cmp_total.antisymm a.0 b.0;
  trans = λ a b c. nat_list_cmp_total.trans a.0 b.0 c.0;
  congr = λ a b c. nat_list_cmp_total.congr a.0 b.0 c.0;
}

pub client_cmp-same : (a b : ClientId) → client_cmp a b ≡ Equal → a ≡ b
client_cmp-same a b e = λ i. record { 0 = slice_cmp-IsAntisymmetric nat_cmp-IsAntisymmetric a.0 b.0 e i }

is_Equal : (r : Ordering) → is_eq r ≡ true → r ≡ Equal
is_Equal Less e = cc
is_Equal Equal e = refl
is_Equal Greater e = cc

own_turn : (r : Ordering) → r ≡ ordering_reverse r → r ≡ Equal
own_turn Less e = cc
own_turn Equal e = refl
own_turn Greater e = cc

pub client_cmp-self : (a : ClientId) → client_cmp a a ≡ Equal
client_cmp-self a = own_turn (client_cmp a a) (client_total.antisymm a a)

pub client_eq-true : (a b : ClientId) → client_eq a b ≡ true → a ≡ b
client_eq-true a b e = client_cmp-same a b (is_Equal (client_cmp a b) e)

pub client_eq-self : (a : ClientId) → client_eq a a ≡ true
client_eq-self a = ap is_eq (client_cmp-self a)

-- the same two the other way round
pub flip : (a b : ClientId) (o : Ordering) → client_cmp a b ≡ o → client_cmp b a ≡ ordering_reverse o
flip a b o e = client_total.antisymm b a ∙ ap ordering_reverse e
