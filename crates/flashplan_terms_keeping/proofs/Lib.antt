mod AllKeep
