-- First one that is spent may go.
use Rattle.std.proofs.Common.{◌≡◌, None}
use Rattle.child_edge.specs.Places.{held_at}
use Rattle.child_edge.proofs.PlacesLemmas.{none_of, stays_free, takes_nobody, takes_then}
use Rattle.child_edge.proofs.connections.Connections.take.Goals as goal

pub returns-then-contains_key : goal.returns-then-contains_key
returns-then-contains_key g c = takes_nobody c.args.self.now.held

pub returns-in-Some : goal.returns-in-Some
returns-in-Some g c = takes_then c.args.self.now.held c.want_of_room.new.self.held c.want_of_room.new.self.held c.want_of_room.ensures (takes_nobody c.want_of_room.new.self.held)

pub returns-in-Ok : goal.returns-in-Ok
returns-in-Ok g c =
    let free : held_at c.args.self.now.held c.args.key ≡ None = none_of _ (cc) in
    takes_then c.args.self.now.held c.want_of_room.new.self.held c.hold.new.self.held c.want_of_room.ensures
    (c.hold.ensures (stays_free c.args.self.now.held c.want_of_room.new.self.held c.args.key c.want_of_room.ensures free))

pub returns-in-Err : goal.returns-in-Err
returns-in-Err g c =
    let free : held_at c.args.self.now.held c.args.key ≡ None = none_of _ (cc) in
    takes_then c.args.self.now.held c.want_of_room.new.self.held c.hold.new.self.held c.want_of_room.ensures
    (c.hold.ensures (stays_free c.args.self.now.held c.want_of_room.new.self.held c.args.key c.want_of_room.ensures free))
