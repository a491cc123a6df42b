-- A member with one more field, and the member that stands last behind one more field of the message.
use Rattle.std.proofs.Common.{◌≡◌, ◌≢◌, ◌≤◌, ℕ, true, false, eqb, List, [], ◌∷◌, ◌++◌, drop, take, map, filter, Option, None, Some, refl, sym, ap, subst, ◌∙◌, inl, inr, arith}
use Rattle.std.specs.Prelude.{is_some, nat_le, ◌&&◌, slice_range}
use Rattle.std.proofs.lemmas.Bool.{and_parts, and_from, cases_Bool, cond-true, cond-false, eqb-true, ne_eqb, le-leb}
use Rattle.std.proofs.lemmas.List.{map-append, append-nil}
use Rattle.std.proofs.lemmas.List.Elements.{filter-append}
use Rattle.proto_wire.specs.declared.field.WireField.{WireField}
use Rattle.proto_wire.specs.Fields.{Field, field_of, sequence_at}
use Rattle.proto_wire.specs.Walk.{IsWithin, IsSlice}
use Rattle.proto_wire.specs.Reading.{block_in, embedded, is_member, run_so_far}
use Rattle.proto_wire.proofs.OneofLemmas.{last_member-push, last_member-skip}
use Rattle.client_msgs.proofs.MemberLemmas.{embedded-member}
use Rattle.group_msgs.specs.declared.listed.Listed.{Listed}
use Rattle.group_msgs.specs.declared.gather.Member.{Member}
use Rattle.group_msgs.specs.Known.{Known, known_of}
use Rattle.group_msgs.specs.Reading.{is_listed, listed_in, member_of}
use Rattle.group_msgs.specs.Gathered.{seen, IsList, IsRun, IsLast}

-- ---- what a member lists

abbrev read_as : Field → Known
read_as f = known_of (embedded f).fields

pub listed_in-skip : (member : ℕ) (fs : List Field) (f : Field) → is_listed member f ≡ false → listed_in member (fs ++ f ∷ []) ≡ listed_in member fs
listed_in-skip member fs f other =
    ap (map (λ (g : Field). (embedded g).fields)) (filter-append (is_listed member) fs (f ∷ []) ∙ ap (λ (gs : List Field). filter (is_listed member) fs ++ gs) (cond-false (is_listed member f) (f ∷ []) [] other) ∙ append-nil (filter (is_listed member) fs))

pub listed_in-push : (member : ℕ) (fs : List Field) (f : Field) → is_listed member f ≡ true → listed_in member (fs ++ f ∷ []) ≡ listed_in member fs ++ (embedded f).fields ∷ []
listed_in-push member fs f is =
    ap (map (λ (g : Field). (embedded g).fields)) (filter-append (is_listed member) fs (f ∷ []) ∙ ap (λ (gs : List Field). filter (is_listed member) fs ++ gs) (cond-true (is_listed member f) (f ∷ []) [] is))
    ∙ map-append (λ (g : Field). (embedded g).fields) (filter (is_listed member) fs) (f ∷ [])

-- ---- a listed message is read where it stands

is_numbered : (number : ℕ) (f : Field) → (eqb f.number number && is_some (block_in f.content)) ≡ true → is_member number number f ≡ true
is_numbered number f is =
    let parts = and_parts (eqb f.number number) (is_some (block_in f.content)) is in
    let same = eqb-true f.number number parts.0 in
    and_from (nat_le number f.number && nat_le f.number number) (is_some (block_in f.content)) (and_from (nat_le number f.number) (nat_le f.number number) (le-leb number f.number (omega (arith, same))) (le-leb f.number number (omega (arith, same)))) parts.1

numbered : (member : ℕ) (f : Field) → is_listed member f ≡ true → (number : ℕ) × (is_member number number f ≡ true)
numbered member f is =
    elim (cases_Bool (eqb member 4)) [
      | inl append ↦ (3, is_numbered 3 f (sym (cond-true (eqb member 4) _ _ append) ∙ is))
      | inr other ↦
          elim (cases_Bool (eqb member 7)) [
            | inl part ↦ (10, is_numbered 10 f (sym (cond-true (eqb member 7) _ _ part) ∙ sym (cond-false (eqb member 4) _ _ other) ∙ is))
            | inr neither ↦ absurd (false_true (sym (cond-false (eqb member 7) _ _ neither) ∙ sym (cond-false (eqb member 4) _ _ other) ∙ is))
          ]
    ]
  where
    false_true : false ≡ true → ⊥
    false_true e = absurd cc

pub listed-embedded : (member : ℕ) (f : WireField) (bytes : List ℕ) → is_listed member (field_of f) ≡ true → IsWithin f bytes → IsSlice f.payload (slice_range bytes f.content_at f.next)
    → embedded (field_of f) ≡ sequence_at f.content_at (drop f.content_at (take f.next bytes))
listed-embedded member f bytes is within slice =
    let n = numbered member (field_of f) is in
    embedded-member n.0 n.0 f bytes n.1 within.in_order slice

-- ---- a member that begins behind another one

none_so_far : (old : Member) (last : Option (ℕ × List Field)) (number : ℕ) → old.number ≢ number → IsLast old last → [] ≡ run_so_far last number
none_so_far old None number other last = refl
none_so_far old (Some (n, fs)) number other (is, of) = sym (cond-false (eqb n number) fs [] (ne_eqb n number (λ e. other (is ∙ e))))

pub IsRun-begin : (old new : Member) (number : ℕ) (last : Option (ℕ × List Field)) → old.number ≢ number → IsLast old last → 2 ≤ number → number ≤ 8 → new.number ≡ number
    → seen new.scalars ≡ known_of [] → ((member : ℕ) → IsList member new.listed []) → IsRun new number (run_so_far last number)
IsRun-begin old new number last other was low high is scalars list =
    subst (IsRun new number) (none_so_far old last number other was) (is, record { low = omega (arith, is, low); high = omega (arith, is, high); scalars = scalars; listed = list new.number })

-- ---- one more field of a member

pub IsRun-skip : (old new : Member) (fs : List Field) (f : Field) → is_listed old.number f ≡ false → new.number ≡ old.number → new.listed ≡ old.listed
    → seen new.scalars ≡ known_of (fs ++ f ∷ []) → IsRun old old.number fs → IsRun new old.number (fs ++ f ∷ [])
IsRun-skip old new fs f other number listed scalars (_, of) =
    let items : map known_of (listed_in old.number fs) ≡ map known_of (listed_in new.number (fs ++ f ∷ [])) =
    sym (ap (λ (n : ℕ). map known_of (listed_in n (fs ++ f ∷ []))) number ∙ ap (map known_of) (listed_in-skip old.number fs f other)) in (
      number,
      record {
        low = omega (arith, number, of.low);
        high = omega (arith, number, of.high);
        scalars = scalars;
        listed = subst (λ (l : Listed). IsList new.number l (map known_of (listed_in new.number (fs ++ f ∷ [])))) (sym listed) (subst (λ (n : ℕ). IsList n old.listed (map known_of (listed_in new.number (fs ++ f ∷ [])))) (sym number) (subst (IsList old.number old.listed) items of.listed));
      },
    )

pub IsRun-push : (old new : Member) (fs : List Field) (f : Field) (item : Known) → is_listed old.number f ≡ true → new.number ≡ old.number → item ≡ known_of (embedded f).fields
    → ((all : List Known) → IsList old.number old.listed all → IsList old.number new.listed (all ++ item ∷ [])) → seen new.scalars ≡ known_of (fs ++ f ∷ []) → IsRun old old.number fs → IsRun new old.number (fs ++ f ∷ [])
IsRun-push old new fs f item is number item-is push scalars (_, of) =
    let items : map known_of (listed_in old.number fs) ++ item ∷ [] ≡ map known_of (listed_in new.number (fs ++ f ∷ [])) =
    ap (λ (x : Known). map known_of (listed_in old.number fs) ++ x ∷ []) item-is ∙ sym (map-append known_of (listed_in old.number fs) ((embedded f).fields ∷ []))
    ∙ sym (ap (λ (n : ℕ). map known_of (listed_in n (fs ++ f ∷ []))) number ∙ ap (map known_of) (listed_in-push old.number fs f is)) in (
      number,
      record {
        low = omega (arith, number, of.low);
        high = omega (arith, number, of.high);
        scalars = scalars;
        listed = subst (λ (n : ℕ). IsList n new.listed (map known_of (listed_in new.number (fs ++ f ∷ [])))) (sym number) (subst (IsList old.number new.listed) items (push (map known_of (listed_in old.number fs)) of.listed));
      },
    )

-- ---- one more field of the message

pub IsLast-skip : (member : Member) (fs : List Field) (f : Field) → is_member 2 8 f ≡ false → IsLast member (member_of fs) → IsLast member (member_of (fs ++ f ∷ []))
IsLast-skip member fs f other last = subst (IsLast member) (sym (last_member-skip 2 8 fs f other)) last

pub IsLast-push : (member : Member) (fs : List Field) (f : Field) → is_member 2 8 f ≡ true → IsRun member f.number (run_so_far (member_of fs) f.number ++ (embedded f).fields) → IsLast member (member_of (fs ++ f ∷ []))
IsLast-push member fs f is run = subst (IsLast member) (sym (last_member-push 2 8 fs f is)) run
