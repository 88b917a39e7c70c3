use Rattle.ts_io.proofs.tcp_socket.TcpSocket.linger.Given as goal

abbrev pub decreases-loop-left : goal.decreases-loop-left
decreases-loop-left g l = l.left
