use Rattle.std.proofs.Common.{◌≡◌, ◌∙◌, sym, ap, subst, rules}
use Rattle.tcpcm_frames.specs.declared.frame.StreamFrame.{StreamFrame}
use Rattle.tcpcm_frames.proofs.Alone.{one_frame}
use Rattle.tcpcm_end.specs.Table.{input_of}
use Rattle.tcpcm_end.specs.declared.stream_end.StreamIn.{StreamIn}
use Rattle.stream_echo.specs.Replying.{IsRefused, Refuses}
use Rattle.stream_echo.proofs.Saying.{on_ok}
use Rattle.stream_echo.proofs.echo.EchoServer.reply.Goals as goal

pub returns-clause-not_refused : goal.returns-clause-not_refused
returns-clause-not_refused c =
    on_ok c.say.result c.say.ensures.good
    (λ good (refuses : Refuses c.args.self.now c.args.request.now).
    let one : refuses.frame ≡ c.in-Ok.frame =
    one_frame refuses.frame c.in-Ok.frame c.args.request.now refuses.spells c.in-Ok.ensures
    in
    let tables : c.args.self.now.tables ≡ c.self.inside.rlnh.is.tables = search rules in
    let up : c.args.self.now.up ≡ c.self.inside.line = search rules in
    let means : input_of c.args.self.now.up refuses.frame ≡ c.input-means.result =
    ap (λ b. input_of b refuses.frame) up
    ∙ ap (λ (f : StreamFrame). input_of c.self.inside.line f) one ∙ sym c.input-means.ensures.answer
    in
    good
    (subst (λ t. IsRefused t c.input-means.result) tables
    (subst (λ (m : StreamIn). IsRefused c.args.self.now.tables m) means refuses.refused)))
