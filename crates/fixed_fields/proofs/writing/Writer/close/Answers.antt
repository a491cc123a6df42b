use Rattle.std.proofs.Common.{◌≡◌, ◌+◌, ◌-◌, List, ℕ, drop, length, ap, arith, ◌∙◌}
use Rattle.std.proofs.lemmas.List.{length-drop}
use Rattle.fixed_fields.specs.Written.{Written, closed}
use Rattle.fixed_fields.proofs.Closing.{closing_of}
use Rattle.fixed_fields.proofs.writing.Writer.close.Goals as goal

pub returns-clause-tail : goal.returns-clause-tail
returns-clause-tail c =
    let start = c.self.inside.start in
    let bytes : List ℕ = c.self.inside.bytes.items in
    let tail : drop start bytes ≡ c.args.self.now.tail = ap (λ (w : Written). w.tail) c.self.view_is in
    let long : c.self.inside.bytes.len ≡ length bytes = omega (arith, c.self.inside.bytes.ok.0) in
    closing_of bytes c.deref_mut.result.now start c.args.place c.deref_mut.ensures.value (omega (arith, length-drop start bytes, ap length tail)) (c.len.result - (start + c.args.place + 4)) c.write_u32.new.buf (omega (arith, long)) c.write_u32.ensures c.self.inside.bytes.len long ∙ ap (closed c.args.place) tail
