-- A member holds the values of one more field.
use Rattle.std.proofs.Common.{◌≡◌, ℕ, Bool, true, false, cond, eqb, List, [], ◌∷◌, ◌++◌, Option, None, Some, refl, sym, ap, ◌∙◌}
use Rattle.std.specs.Prelude.{unwrap_or}
use Rattle.proto_wire.specs.Fields.{Varint, Block, Field}
use Rattle.proto_wire.specs.Reading.{varint_in, block_in, varint_under, block_under}
use Rattle.proto_wire.proofs.ReadingLemmas.{u64_of-push, bytes_of-push}
use Rattle.client_msgs.specs.declared.oneof.Member.{Member}
use Rattle.client_msgs.specs.Gathered.{Holds}

Holds-push : (old new : Member) (fs : List Field) (f : Field) → new.block_1.now ≡ unwrap_or (block_under 1 f) old.block_1.now → new.block_2.now ≡ unwrap_or (block_under 2 f) old.block_2.now
    → new.varint_1 ≡ unwrap_or (varint_under 1 f) old.varint_1 → new.varint_3 ≡ unwrap_or (varint_under 3 f) old.varint_3 → Holds old fs → Holds new (fs ++ f ∷ [])
Holds-push old new fs f block_1 block_2 varint_1 varint_3 holds = record {
  block_1 = block_1 ∙ ap (unwrap_or (block_under 1 f)) holds.block_1 ∙ sym (bytes_of-push 1 fs f);
  block_2 = block_2 ∙ ap (unwrap_or (block_under 2 f)) holds.block_2 ∙ sym (bytes_of-push 2 fs f);
  varint_1 = varint_1 ∙ ap (unwrap_or (varint_under 1 f)) holds.varint_1 ∙ sym (u64_of-push 1 fs f);
  varint_3 = varint_3 ∙ ap (unwrap_or (varint_under 3 f)) holds.varint_3 ∙ sym (u64_of-push 3 fs f);
}

-- what is under the number, or else d
under : {X : Type 0} (here : Bool) (o : Option X) (x d : X) → o ≡ Some x → cond here x d ≡ unwrap_or (cond here o None) d
under true o x d is = sym (ap (λ (p : Option _). unwrap_or p d) is)
under false o x d is = refl

under_none : {X : Type 0} (here : Bool) (o : Option X) (d : X) → o ≡ None → d ≡ unwrap_or (cond here o None) d
under_none true o d is = sym (ap (λ (p : Option _). unwrap_or p d) is)
under_none false o d is = refl

pub Holds-block : (old new : Member) (fs : List Field) (f : Field) (x : List ℕ) → f.content ≡ Block x → new.block_1.now ≡ cond (eqb f.number 1) x old.block_1.now
    → new.block_2.now ≡ cond (eqb f.number 2) x old.block_2.now → new.varint_1 ≡ old.varint_1 → new.varint_3 ≡ old.varint_3 → Holds old fs → Holds new (fs ++ f ∷ [])
Holds-block old new fs f x is block_1 block_2 varint_1 varint_3 holds =
    Holds-push old new fs f (block_1 ∙ under (eqb f.number 1) (block_in f.content) x old.block_1.now (ap block_in is)) (block_2 ∙ under (eqb f.number 2) (block_in f.content) x old.block_2.now (ap block_in is)) (varint_1 ∙ under_none _ (varint_in f.content) _ (ap varint_in is)) (varint_3 ∙ under_none _ (varint_in f.content) _ (ap varint_in is)) holds

pub Holds-varint : (old new : Member) (fs : List Field) (f : Field) (n : ℕ) → f.content ≡ Varint n → new.block_1.now ≡ old.block_1.now → new.block_2.now ≡ old.block_2.now
    → new.varint_1 ≡ cond (eqb f.number 1) n old.varint_1 → new.varint_3 ≡ cond (eqb f.number 3) n old.varint_3 → Holds old fs → Holds new (fs ++ f ∷ [])
Holds-varint old new fs f n is block_1 block_2 varint_1 varint_3 holds =
    Holds-push old new fs f (block_1 ∙ under_none _ (block_in f.content) _ (ap block_in is)) (block_2 ∙ under_none _ (block_in f.content) _ (ap block_in is)) (varint_1 ∙ under (eqb f.number 1) (varint_in f.content) n old.varint_1 (ap varint_in is)) (varint_3 ∙ under (eqb f.number 3) (varint_in f.content) n old.varint_3 (ap varint_in is)) holds

pub Holds-other : (old : Member) (fs : List Field) (f : Field) → varint_in f.content ≡ None → block_in f.content ≡ None → Holds old fs → Holds old (fs ++ f ∷ [])
Holds-other old fs f no_varint no_block holds =
    Holds-push old old fs f (under_none _ (block_in f.content) _ no_block) (under_none _ (block_in f.content) _ no_block) (under_none _ (varint_in f.content) _ no_varint) (under_none _ (varint_in f.content) _ no_varint) holds
