use Rattle.std.proofs.Common.{◌≡◌, ◌-◌, ◌∷◌, List, ℕ, Some, true, nat_eq, length, sym, ap, ◌∙◌, subst, rules}
use Rattle.std.specs.Prelude.{slice_get}
use Rattle.std.specs.Cmp.Lexicographic.{pointwise, same_text}
use Rattle.group_quorum.specs.Conf.{Conf}
use Rattle.trace_audit.specs.declared.bound.Members.{Members}
use Rattle.trace_audit.specs.Bounds.{KeptBound, StandsBound, conf_told, confs_told}
use Rattle.trace_audit.proofs.Bounds.{conf_again}
use Rattle.trace_audit.proofs.bound.Bound.members.Goals as goal

pub returns-clause-ok : goal.returns-clause-ok
returns-clause-ok c = λ confs rolled rolling s.
    let told = c.self.inside.told.items in
    let last = c.in-Some.last.now in
    let is : c.args.self.now.confs ≡ confs_told told = sym (ap (λ (b : KeptBound). b.confs) c.self.view_is) in
    let at : slice_get told (length c.deref.result.now - 1) ≡ Some last =
    sym (c.in-Some.ensures.value ∙ ap (λ (xs : List Members). slice_get xs (length c.deref.result.now - 1)) c.deref.ensures.value) in
    let margin : last.margin ≡ c.args.margin = search rules in
    let items : last.voters.items ≡ c.as_slice.result.now = search rules in
    let test : true ≡ pointwise nat_eq c.as_slice.result.now c.args.voters.now = search rules in
    let voters : last.voters.items ≡ c.args.voters.now = items ∙ same_text c.as_slice.result.now c.args.voters.now test in
    let conf : conf_told last ≡ record { margin = c.args.margin; voters = c.args.voters.now } =
    ap (λ (n : ℕ). record { margin = n; voters = last.voters.items }) margin ∙ ap (λ (vs : List ℕ). record { margin = c.args.margin; voters = vs }) voters in
    subst (λ (k : Conf). StandsBound c.args.self.now (k ∷ confs) rolled rolling) conf
    (conf_again c.args.self.now told (length c.deref.result.now - 1) last confs rolled rolling is at s)
